-- A process is no name.
use Rattle.sk_undo.proofs.NameCounts.{process_either}
use Rattle.sk_undo.proofs.logs.LogsKeeper.change_by.Goals as goal

pub invariant_of-self : goal.invariant_of-self
invariant_of-self g c = process_either c.change_by.result c.change_by.new.self c.self.invariant c.args.pid _ c.change_by.ensures.ok c.change_by.ensures.err
