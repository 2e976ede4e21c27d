-- A process is no name.
use Rattle.sk_undo.proofs.Cites.{Proc, refl}
use Rattle.sk_undo.proofs.NameCounts.{process_counted}
use Rattle.sk_undo.proofs.logs.LogsKeeper.become_unnoted.Goals as goal

pub invariant_of-self : goal.invariant_of-self
invariant_of-self g c = process_counted c.become_unnoted.new.self c.self.invariant (Proc c.args.pid) _ c.become_unnoted.ensures c.args.pid refl
