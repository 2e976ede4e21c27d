-- The last record's bytes are the last.
use Rattle.sk_batches.proofs.Names.{◌∙◌, ap, length, arith, payload}
use Rattle.sk_batches.proofs.Lists.{pushed_length}
use Rattle.sk_batches.proofs.records.Records.drop_last.Goals as goal

pub overflow_sub-self : goal.overflow_sub-self
overflow_sub-self c =
    let bytes = ap length c.bytes.ensures in
    let all = c.self.invariant ∙ ap (λ rs. length (payload rs)) c.in-Some.ensures.items ∙ pushed_length c.pop.new.self.items c.in-Some.record in
    omega (arith, bytes, all)

pub invariant_of-self : goal.invariant_of-self
invariant_of-self c =
    let bytes = ap length c.bytes.ensures in
    let all = c.self.invariant ∙ ap (λ rs. length (payload rs)) c.in-Some.ensures.items ∙ pushed_length c.pop.new.self.items c.in-Some.record in
    omega (arith, bytes, all)
