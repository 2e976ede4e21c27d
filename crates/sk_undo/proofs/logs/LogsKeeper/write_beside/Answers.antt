-- The process is as it was after the other entity was set.
use Rattle.sk_undo.proofs.Cites.{Some, sym, subst, CanBecome, became}
use Rattle.sk_undo.proofs.Swaps.{still_unnoted, value_stays, wrote_both}
use Rattle.sk_undo.proofs.logs.LogsKeeper.write_beside.Goals as goal

pub become_unnoted-requires-clause-unnoted : goal.become_unnoted-requires-clause-unnoted
become_unnoted-requires-clause-unnoted g c = still_unnoted c.args.self.now c.set_alone.new.self c.args.entity.now (Some c.args.stored) c.args.pid c.in_ok-set_alone.ensures.ok c.requires.apart c.requires.unnoted

pub become_unnoted-requires-clause-can : goal.become_unnoted-requires-clause-can
become_unnoted-requires-clause-can g c =
    subst (CanBecome (g.C.Becoming.can c.args.by.now))
    (sym (value_stays c.args.self.now c.set_alone.new.self c.args.entity.now (Some c.args.stored) c.args.pid c.in_ok-set_alone.ensures.ok c.requires.apart)) c.requires.can

pub returns-clause-ok : goal.returns-clause-ok
returns-clause-ok g c =
    wrote_both c.args.self.now c.set_alone.new.self c.args.entity.now (Some c.args.stored) c.args.pid c.in_ok-set_alone.ensures.ok c.requires.apart (λ o. Some (became (g.C.Becoming.after c.args.by.now) o)) _ c.become_unnoted.ensures
