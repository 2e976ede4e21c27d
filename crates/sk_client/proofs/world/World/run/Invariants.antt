use Rattle.sk_client.proofs.Names.{◌+◌, drop, Result, WorldStop, WorldView, RunsTo}
use Rattle.sk_client.proofs.world.World.run.Given as goal

-- what the rest of the events comes to, all of them come to
abbrev pub invariant-loop-place : goal.invariant-loop-place
invariant-loop-place l =
    (result : Result (Unit {0}) WorldStop) (new : WorldView) → RunsTo result l.self (drop l.place l.events) (l.place + 1) new → RunsTo result l.initial.self l.events 1 new
