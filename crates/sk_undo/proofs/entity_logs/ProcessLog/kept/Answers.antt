use Rattle.std.proofs.Common.{◌∙◌}
use Rattle.sk_undo.proofs.Runs.{length_runs}
use Rattle.sk_undo.proofs.entity_logs.ProcessLog.kept.Goals as goal

pub returns : goal.returns
returns c = c.len.ensures ∙ length_runs c.args.self.now.log.notes.items
