-- The last of those that are left.
use Rattle.sk_batches.proofs.Names.{◌∙◌, ap, sym, arith, drop_all, last_in}
use Rattle.sk_batches.proofs.list.last_in.Goals as goal

pub returns : goal.returns
returns c = sym (c.loop-batch.invariant ∙ ap (last_in c.args.frame c.loop-batch.last) (drop_all c.loop-batch.batch-index c.args.batches.now (omega arith)))
