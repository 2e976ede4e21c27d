-- Reading a literal byte by byte: what was said before joins what is said after it, from the definition of literals.
use Rattle.sk_words.proofs.Names.{◌≡◌, ◌<◌, ℕ, List, [], ◌∷◌, ◌++◌, length, Result, Ok, Err, refl, ap, sym}
use Rattle.sk_words.proofs.Names.{append_assoc, arith, lt-ltb, length-append, FaultKind, wrong, then_byte, at_most_512}

-- what was said before, and what is said after it
abbrev pub with_front : List ℕ → Result (List ℕ) FaultKind → Result (List ℕ) FaultKind
with_front front (Ok t) = Ok (front ++ t)
with_front front (Err e) = Err e

pub with_front_more : (front : List ℕ) (b : ℕ) (said : Result (List ℕ) FaultKind) → with_front front (then_byte b said) ≡ with_front (front ++ b ∷ []) said
with_front_more front b (Ok t) = ap (λ (x : List ℕ). Ok x) (sym (append_assoc front (b ∷ []) t))
with_front_more front b (Err e) = refl

-- 512 bytes and one more are too many, whatever follows
pub too_many : (front : List ℕ) (b : ℕ) (said : Result (List ℕ) FaultKind) → length front ≡ 512 → at_most_512 (with_front front (then_byte b said)) ≡ wrong
too_many front b (Ok t) full =
    let long : 512 < length (front ++ b ∷ t) = omega (arith, length-append front (b ∷ t)) in
    rw (lt-ltb 512 (length (front ++ b ∷ t)) long) refl
too_many front b (Err e) full = refl
