-- A process is no name.
use Rattle.sk_undo.proofs.NameCounts.{process_if}
use Rattle.sk_undo.proofs.logs.Logs.go_on.Goals as goal

pub invariant_of-self : goal.invariant_of-self
invariant_of-self g c = process_if c.go_on.result c.go_on.new.self c.self.invariant c.args.pid _ c.go_on.ensures.wrote c.go_on.ensures.same
