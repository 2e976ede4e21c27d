use Rattle.std.proofs.Common.{◌∙◌}
use Rattle.sk_undo.proofs.Runs.{newest_run}
use Rattle.sk_undo.proofs.entity_logs.ProcessLog.tags.Goals as goal

pub returns : goal.returns
returns c = c.tags_of.ensures ∙ newest_run c.args.self.now.log.notes.items c.args.self.now.whole
