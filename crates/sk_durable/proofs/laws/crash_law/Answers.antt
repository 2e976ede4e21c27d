-- The frames have the logged commands, each with its work.
use Rattle.sk_durable.proofs.Crashes.{crashes_are_recovered}
use Rattle.sk_durable.proofs.laws.crash_law.Goals as goal

pub returns : goal.returns
returns c = crashes_are_recovered
