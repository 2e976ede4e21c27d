use Rattle.sk_log.proofs.Crash.{crash_keeps_prefix}
use Rattle.sk_log.proofs.laws.crash_law.Goals as goal

pub returns : goal.returns
returns c = crash_keeps_prefix
