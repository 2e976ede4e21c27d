use Rattle.sk_log.proofs.Names.{◌≡◌, ℕ, ◌+◌, ◌-◌, ◌/◌, ◌%◌, List, [], ◌∷◌, ◌++◌, sum, slice_set, refl, ◌∙◌, ap, arith}
use Rattle.sk_log.proofs.Names.{sum_by-append, front}
use Rattle.sk_log.specs.Frame.{digits, head_of}
use Rattle.sk_log.proofs.bytes.head_bytes.Goals as goal

-- two zeros add nothing
zeros_add : (bytes : List ℕ) → sum (bytes ++ 0 ∷ 0 ∷ []) ≡ sum bytes
zeros_add bytes = omega (arith, sum_by-append (λ y. y) bytes (0 ∷ 0 ∷ []))

set_both : (segment number len total check : ℕ)
    → slice_set (slice_set (front segment number len total ++ 0 ∷ 0 ∷ []) 22 (128 + check % 128)) 23 (128 + check / 128 % 128) ≡ front segment number len total ++ digits 2 check
unfolding digits
set_both segment number len total check = refl

pub returns : goal.returns
unfolding head_of
returns c =
    let bytes = front c.args.segment c.args.number c.args.len c.args.total in
    let check : c.saturating_sub-check.result ≡ 5632 - sum bytes =
    c.saturating_sub-check.ensures ∙ ap (λ n. 5632 - n) (c.sum_of.ensures.value ∙ ap sum c.unchecked-head.ensures ∙ zeros_add bytes) in
    ap (λ (xs : List ℕ). slice_set (slice_set xs 22 (128 + c.saturating_sub-check.result % 128)) 23 (128 + c.saturating_sub-check.result / 128 % 128)) c.unchecked-head.ensures
    ∙ set_both c.args.segment c.args.number c.args.len c.args.total c.saturating_sub-check.result
    ∙ ap (λ n. bytes ++ digits 2 n) check
