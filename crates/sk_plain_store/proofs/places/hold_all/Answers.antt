-- The next key has a place too.
use Rattle.std.proofs.Common.{sym, ◌∙◌}
use Rattle.sk_plain_store.proofs.Placed.{next_have}
use Rattle.sk_plain_store.proofs.places.hold_all.Goals as goal

pub loop-write-preserved : goal.loop-write-preserved
loop-write-preserved c = record {
  same = c.hold.ensures.same ∙ c.loop-write.invariant.same;
  held = next_have c.args.written.now c.loop-write.write-index c.write-item.result c.as_slice.result.now c.loop-write.places.entries c.hold.new.places.entries
      c.loop-write-test.true (sym c.write-item.is) c.as_slice.ensures.value c.loop-write.invariant.held c.hold.ensures.keeps c.in_ok-hold.ensures.held;
}
