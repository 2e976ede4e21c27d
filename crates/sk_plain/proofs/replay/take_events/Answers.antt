-- An event that does not go on is the first fault: the events before it were taken.
use Rattle.sk_plain.proofs.Cites.{◌+◌, map, take, image, IsRefused, IsTaken, IsUnknown}
use Rattle.sk_plain.proofs.Replays.{first_fault}
use Rattle.sk_plain.proofs.replay.take_events.Goals as goal

pub returns-in-Err-Refused : goal.returns-in-Err-Refused
returns-in-Err-Refused c start begun =
    let scripts = c.args.scripts.now in
    let before = map image (take c.loop-event.event-index c.args.events.now) in
    let taken = c.loop-event.invariant.taken start begun in
    let fault = rw (c.in-Err-Refused.is, c.in-Err-Refused.field-0-is) at (c.take_event.ensures start before taken) in
    first_fault scripts start c.args.events.now c.loop-event.event-index c.loop-event.at c.event-item.result c.loop-event.replay
    (IsRefused scripts start) c.loop-event-test.true c.event-item.is c.loop-event.invariant.at taken fault

pub returns-in-Err-Unknown : goal.returns-in-Err-Unknown
returns-in-Err-Unknown c start begun =
    let scripts = c.args.scripts.now in
    let before = map image (take c.loop-event.event-index c.args.events.now) in
    let taken = c.loop-event.invariant.taken start begun in
    let fault = rw (c.in-Err-Unknown.is, c.in-Err-Unknown.field-0-is) at (c.take_event.ensures start before taken) in
    first_fault scripts start c.args.events.now c.loop-event.event-index c.loop-event.at c.event-item.result c.loop-event.replay
    (IsUnknown scripts start) c.loop-event-test.true c.event-item.is c.loop-event.invariant.at taken fault

pub returns-in-Err-Memory : goal.returns-in-Err-Memory
returns-in-Err-Memory c start begun =
    let scripts = c.args.scripts.now in
    let before = map image (take c.loop-event.event-index c.args.events.now) in
    let taken = c.loop-event.invariant.taken start begun in
    let fault = rw (c.in-Err-Memory.is, c.in-Err-Memory.field-0-is) at (c.take_event.ensures start before taken) in (
      c.loop-event.at + 1,
      first_fault scripts start c.args.events.now c.loop-event.event-index c.loop-event.at c.event-item.result c.loop-event.replay
          (IsTaken scripts start) c.loop-event-test.true c.event-item.is c.loop-event.invariant.at taken fault,
    )
