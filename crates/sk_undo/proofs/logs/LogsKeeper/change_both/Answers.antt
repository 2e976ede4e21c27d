-- What is changed was there and is there, and a process is no name.
use Rattle.sk_undo.proofs.Cites.{◌≡◌, true, is_some, refl, sym, subst, LogsView, look_at}
use Rattle.sk_undo.proofs.NameCounts.{both_either, had_value}
use Rattle.sk_undo.proofs.logs.LogsKeeper.change_both.Goals as goal

pub invariant_of-self : goal.invariant_of-self
invariant_of-self g c =
    let e = c.args.entity.now in
    let had = subst (λ (l : LogsView). is_some (look_at l.slots e) ≡ true) (sym c.self.view_is) (had_value (look_at c.args.self.now.slots e) c.args.change.now c.requires.fits) in
    both_either c.change_both.result c.change_both.new.self c.self.invariant e _ c.args.pid _ had refl c.change_both.ensures.ok c.change_both.ensures.err
