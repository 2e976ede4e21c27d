-- Names with zeros past their ends compare as the names do, since no byte of a name is 0.
use Rattle.sk_ids.proofs.Names.{◌≡◌, ℕ, zero, suc, ◌+◌, ◌-◌, ◌<◌, IsTrue, true≢false, List, [], ◌∷◌, ◌++◌, length, take}
use Rattle.sk_ids.proofs.Names.{All, arith, sym, ◌∙◌, ap, length-take-le, take-append-drop, nat_cmp, ordering_then}
use Rattle.sk_ids.proofs.Names.{slice_cmp, is_name_byte, IsTidyName, NAME_LIMIT}
use Rattle.std.proofs.Common.{replicate}
use Rattle.sk_ids.proofs.Words.{below, above, level}

abbrev Letters : List ℕ → Type 0
Letters xs = All (λ b. IsTrue (is_name_byte b)) xs

some : (b : ℕ) → IsTrue (is_name_byte b) → 0 < b
some zero h = absurd (true≢false (sym h))
some (suc b) h = omega arith

with_zeros : (xs ys : List ℕ) (k l : ℕ) → length xs + k ≡ length ys + l → Letters xs → Letters ys → slice_cmp nat_cmp (xs ++ replicate k 0) (ys ++ replicate l 0) ≡ slice_cmp nat_cmp xs ys
with_zeros [] [] k l e g h =
    let same : l ≡ k = omega (arith, e) in
    ap (λ m. slice_cmp nat_cmp (replicate k 0) (replicate m 0)) same ∙ level (replicate k 0)
with_zeros [] (y ∷ ys) zero l e g h = absurd (omega (arith, e))
with_zeros [] (y ∷ ys) (suc k) l e g h = ap (λ r. ordering_then r (slice_cmp nat_cmp (replicate k 0) (ys ++ replicate l 0))) (below 0 y (some y (h 0 0 (omega arith))))
with_zeros (x ∷ xs) [] k zero e g h = absurd (omega (arith, e))
with_zeros (x ∷ xs) [] k (suc l) e g h = ap (λ r. ordering_then r (slice_cmp nat_cmp (xs ++ replicate k 0) (replicate l 0))) (above x 0 (some x (g 0 0 (omega arith))))
with_zeros (x ∷ xs) (y ∷ ys) k l e g h =
    ap (ordering_then (nat_cmp x y)) (with_zeros xs ys k l (omega (arith, e)) (λ i d lt. g (suc i) d (omega (arith, lt))) (λ i d lt. h (suc i) d (omega (arith, lt))))

-- cells compare as the names at their front
pub as_names : (a b : List ℕ) (n m : ℕ) → IsTidyName n a → IsTidyName m b → slice_cmp nat_cmp a b ≡ slice_cmp nat_cmp (take n a) (take m b)
as_names a b n m g h =
    let a_len : length (take n a) ≡ n = length-take-le n a (omega (arith, g.fits, g.count)) in
    let b_len : length (take m b) ≡ m = length-take-le m b (omega (arith, h.fits, h.count)) in
    let a_is : take n a ++ replicate (NAME_LIMIT - n) 0 ≡ a = ap (λ z. take n a ++ z) (sym g.zeros) ∙ take-append-drop n a in
    let b_is : take m b ++ replicate (NAME_LIMIT - m) 0 ≡ b = ap (λ z. take m b ++ z) (sym h.zeros) ∙ take-append-drop m b in
    sym (λ i. slice_cmp nat_cmp (a_is i) (b_is i))
    ∙ with_zeros (take n a) (take m b) (NAME_LIMIT - n) (NAME_LIMIT - m) (omega (arith, a_len, b_len, g.fits, h.fits)) g.named.letters h.named.letters
