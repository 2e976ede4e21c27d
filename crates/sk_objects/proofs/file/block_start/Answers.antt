use Rattle.std.proofs.Common.{take, ap, ◌∙◌}
use Rattle.sk_objects.proofs.Seen.{block_part}
use Rattle.sk_objects.proofs.file.block_start.Goals as goal

pub returns : goal.returns
returns c =
    ap (take c.args.count) c.as_slice.ensures.value
    ∙ block_part c.args.slots.now c.args.index c.args.count c.index-slots-index.result c.requires.blocks c.requires.there c.index-slots-index.is c.requires.within
