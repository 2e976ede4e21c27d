-- The events before the loop's place happen.
use Rattle.sk_play.proofs.Names.{take, Replays}
use Rattle.sk_play.proofs.replaying.replay.Given as goal

abbrev pub invariant-loop-place : goal.invariant-loop-place
invariant-loop-place l = Replays (take l.place l.events) l.fn.session.holder.held l.fn.session.holder.kernel l.session.holder.held l.session.holder.kernel
