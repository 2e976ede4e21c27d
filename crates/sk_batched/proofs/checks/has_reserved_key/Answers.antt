-- One key more is none.
use Rattle.sk_batched.proofs.Names.{◌≡◌, ◌<◌, ℕ, false, length, sym, ap, ◌∙◌, arith, is_reserved, Vec}
use Rattle.std.proofs.Common.{slice_index_or}
use Rattle.sk_batched.proofs.Touched.{any_next}
use Rattle.sk_batched.proofs.checks.has_reserved_key.Goals as goal

pub loop-write-preserved : goal.loop-write-preserved
loop-write-preserved g c =
    let i = c.loop-write.write-index in
    let ws = c.args.step.now.written.items in
    let lt : i < length ws = omega arith in
    let here : is_reserved c.write-item.result.0.items ≡ false = sym c.is_batch_key-in-loop-write.ensures ∙ c.if-is_batch_key-2.false in
    let at = c.write-item.is ∙ ap (λ xs. slice_index_or xs i c.write-item.result) c.as_slice-write-items.ensures.value in
    (c.loop-write.invariant.0, any_next (λ (w : Vec ℕ × _). is_reserved w.0.items) ws i c.write-item.result lt at c.loop-write.invariant.1 here)
