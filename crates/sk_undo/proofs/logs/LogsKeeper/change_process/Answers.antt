-- A process is no name.
use Rattle.sk_undo.proofs.NameCounts.{process_either}
use Rattle.sk_undo.proofs.logs.LogsKeeper.change_process.Goals as goal

pub invariant_of-self : goal.invariant_of-self
invariant_of-self g c = process_either c.change_process.result c.change_process.new.self c.self.invariant c.args.pid _ c.change_process.ensures.ok c.change_process.ensures.err
