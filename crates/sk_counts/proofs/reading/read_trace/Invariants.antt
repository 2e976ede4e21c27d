-- What stands after the first events is what the trace of these comes to.
use Rattle.sk_counts.proofs.Names.{◌≡◌, map, take, all_recorded, no_record, plain, image, most_up_to, seen, Stands}
use Rattle.sk_counts.proofs.reading.read_trace.Given as goal

abbrev pub invariant-loop-event : goal.invariant-loop-event
invariant-loop-event l = record {
  stands : Stands l.kernel.scripts l.kernel.start l.standing;
  standing : seen l.standing ≡ all_recorded (plain l.kernel.scripts) l.kernel.start no_record (map image (take l.event-index l.kernel.trace));
  most : l.most ≡ most_up_to l.kernel l.event-index;
}
