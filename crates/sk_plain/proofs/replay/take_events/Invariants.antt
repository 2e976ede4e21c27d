-- The events before this one were taken.
use Rattle.sk_plain.proofs.Cites.{◌≡◌, [], map, take, State, image, IsReplay}
use Rattle.sk_plain.proofs.replay.take_events.Given as goal

abbrev pub invariant-loop-event : goal.invariant-loop-event
invariant-loop-event l = record {
  taken : (start : State) → IsReplay l.scripts start [] l.fn.replay → IsReplay l.scripts start (map image (take l.event-index l.events)) l.replay;
  at : l.at ≡ l.event-index;
}
