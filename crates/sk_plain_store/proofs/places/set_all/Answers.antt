-- One write more.
use Rattle.std.specs.Vec.Iter.{into_iter_items}
use Rattle.sk_plain_store.proofs.Placed.{one_written, rest_have}
use Rattle.sk_plain_store.proofs.places.set_all.Goals as goal

pub loop-write-preserved : goal.loop-write-preserved
loop-write-preserved c =
    let old = c.loop-write.places.entries in
    let new = c.set.new.places.entries in
    let ws = into_iter_items c.loop-write.write-iterator in
    let left = into_iter_items c.next.new.self in record {
      same = one_written ws left c.in-Some.write c.as_slice.result.now old new _ c.in-Some.ensures.steps.0 c.as_slice.ensures.value c.set.ensures.written c.loop-write.invariant.same;
      held = rest_have ws left c.in-Some.write old new c.in-Some.ensures.steps.0 c.loop-write.invariant.held c.set.ensures.keeps;
    }

pub loop-write-preserved-in-Some : goal.loop-write-preserved-in-Some
loop-write-preserved-in-Some c =
    let old = c.loop-write.places.entries in
    let new = c.set.new.places.entries in
    let ws = into_iter_items c.loop-write.write-iterator in
    let left = into_iter_items c.next.new.self in record {
      same = one_written ws left c.in-Some.write c.as_slice.result.now old new _ c.in-Some.ensures.steps.0 c.as_slice.ensures.value c.set.ensures.written c.loop-write.invariant.same;
      held = rest_have ws left c.in-Some.write old new c.in-Some.ensures.steps.0 c.loop-write.invariant.held c.set.ensures.keeps;
    }
