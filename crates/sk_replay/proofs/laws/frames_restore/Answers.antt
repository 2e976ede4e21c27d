-- Each payload says its own works.
use Rattle.sk_replay.proofs.Framed.{restore}
use Rattle.sk_replay.proofs.laws.frames_restore.Goals as goal

pub returns : goal.returns
returns c = restore
