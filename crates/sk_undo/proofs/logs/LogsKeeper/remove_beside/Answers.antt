-- The process is as it was after the other entity went, and the two writes commute.
use Rattle.sk_undo.proofs.Cites.{Some, sym, subst, CanBecome, became, None, ◌∙◌, Proc, look_at}
use Rattle.sk_undo.proofs.Swaps.{still_unnoted, value_stays, wrote_both, wrote_first}
use Rattle.sk_undo.proofs.logs.LogsKeeper.remove_beside.Goals as goal

pub become_unnoted-requires-clause-unnoted : goal.become_unnoted-requires-clause-unnoted
become_unnoted-requires-clause-unnoted g c = still_unnoted c.args.self.now c.clear.new.self c.args.entity.now None c.args.pid c.in_ok-clear.ensures.ok c.requires.apart c.requires.unnoted

pub become_unnoted-requires-clause-can : goal.become_unnoted-requires-clause-can
become_unnoted-requires-clause-can g c =
    subst (CanBecome (g.C.Becoming.can c.args.by.now))
    (sym (value_stays c.args.self.now c.clear.new.self c.args.entity.now None c.args.pid c.in_ok-clear.ensures.ok c.requires.apart)) c.requires.can

pub returns-clause-ok : goal.returns-clause-ok
returns-clause-ok g c =
    wrote_both c.args.self.now c.clear.new.self c.args.entity.now None c.args.pid c.in_ok-clear.ensures.ok c.requires.apart (λ o. Some (became (g.C.Becoming.after c.args.by.now) o)) _ c.become_unnoted.ensures
    ∙ wrote_first c.args.self.now c.clear.new.self c.args.entity.now None c.args.pid c.in_ok-clear.ensures.ok c.requires.apart
    (Some (became (g.C.Becoming.after c.args.by.now) (look_at c.args.self.now.slots (Proc c.args.pid))))
