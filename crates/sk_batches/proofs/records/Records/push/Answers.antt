-- One record more.
use Rattle.sk_batches.proofs.Names.{◌∙◌, ap, length, arith, ◌++◌, ◌∷◌, [], payload}
use Rattle.sk_batches.proofs.Lists.{pushed_length}
use Rattle.sk_batches.proofs.records.Records.push.Goals as goal

pub invariant_of-self-2 : goal.invariant_of-self-2
invariant_of-self-2 c =
    let bytes = ap length c.bytes.ensures in
    let all =
    ap (λ rs. length (payload rs)) (c.push_reserved.ensures.items ∙ ap (λ rs. rs ++ c.args.added ∷ []) c.in_ok-reserve.ensures.items)
    ∙ pushed_length c.self.inside.items.items c.args.added in
    omega (arith, bytes, all, c.self.invariant)
