-- What is written was there and is there, and a process is no name.
use Rattle.sk_undo.proofs.Cites.{◌≡◌, true, is_some, refl, sym, subst, Obj, LogsView, look_at}
use Rattle.sk_undo.proofs.NameCounts.{both_either, had_value}
use Rattle.sk_undo.proofs.logs.LogsKeeper.write_buffer.Goals as goal

pub invariant_of-self : goal.invariant_of-self
invariant_of-self g c =
    let e = Obj c.args.object.now in
    let had = subst (λ (l : LogsView). is_some (look_at l.slots e) ≡ true) (sym c.self.view_is) (had_value (look_at c.args.self.now.slots e) _ c.requires.fits) in
    both_either c.write_buffer.result c.write_buffer.new.self c.self.invariant e _ c.args.pid _ had refl c.write_buffer.ensures.ok c.write_buffer.ensures.err
