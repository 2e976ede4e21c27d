-- Those that are kept are no longer than all.
use Rattle.sk_batches.proofs.Names.{◌∙◌, length, ap, arith, payload}
use Rattle.sk_batches.proofs.Lists.{kept_length}
use Rattle.sk_batches.proofs.records.Records.keep.Goals as goal

pub len_of-self-inside-requires : goal.len_of-self-inside-requires
len_of-self-inside-requires c =
    let now = ap (λ rs. length (payload rs)) (c.as_slice.ensures.value ∙ c.drop_struck.ensures) in
    let less = kept_length c.args.first c.args.last c.self.inside.items.items in
    omega (arith, now, less, c.self.invariant)
