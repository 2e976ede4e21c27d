-- A change is made of one after the other.
use Rattle.sk_batches.proofs.Names.{arith, cut_off}
use Rattle.sk_batches.proofs.Lists.{none_mapped, one_mapped, all_mapped}
use Rattle.sk_batches.proofs.list.cut_all.Goals as goal

pub loop-place-init : goal.loop-place-init
loop-place-init c = none_mapped (cut_off c.args.cut.now) c.args.batches.now.items

pub loop-place-preserved : goal.loop-place-preserved
loop-place-preserved c =
    one_mapped (cut_off c.args.cut.now) c.args.batches.now.items c.loop-place.batches.items c.loop-place.place c.index_mut.result.now c.cut_off.new.self c.loop-place.invariant
    (omega (arith, c.loop-place-test.true, c.len-place-end.ensures)) c.index_mut.ensures.value c.cut_off.ensures

pub returns : goal.returns
returns c = all_mapped (cut_off c.args.cut.now) c.args.batches.now.items c.loop-place.batches.items c.loop-place.place c.loop-place.invariant (omega (arith, c.loop-place-test.false, c.len-place-end.ensures))
