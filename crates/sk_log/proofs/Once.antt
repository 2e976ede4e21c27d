-- The frames of a log are read in one way.
use Rattle.sk_log.proofs.Names.{◌≡◌, ℕ, suc, ◌+◌, List, [], ◌∷◌, ◌++◌, length, refl, sym, ◌∙◌, ap, subst, arith}
use Rattle.sk_log.proofs.Names.{append_assoc, length-append, frame, Ends, log, IsLog}
use Rattle.sk_log.proofs.Read.{length-frame}
use Rattle.sk_log.proofs.Reading.{same_frame, log_push}

-- a frame more
pub length_log : (segment number : ℕ) (ps : List (List ℕ)) (p : List ℕ)
    → length (log segment number (ps ++ p ∷ [])) ≡ length (log segment number ps) + (24 + length p)
length_log segment number ps p =
    omega (
      arith,
      ap length (log_push segment number ps p),
      length-append (log segment number ps) (frame segment (number + length ps) p),
      length-frame segment (number + length ps) p,
    )

later_log : (segment number : ℕ) (p : List ℕ) (ps : List (List ℕ)) (bytes : List ℕ) (is : IsLog segment number (p ∷ ps) bytes)
    → IsLog segment (suc number) ps (log segment (suc number) ps ++ is.rest)
later_log segment number p ps bytes is =
    let same : number + suc (length ps) ≡ suc number + length ps = omega arith in
    record {
      frames = is.frames.1;
      rest = is.rest;
      begins = refl;
      ends = subst (λ n. Ends segment n is.rest) same is.ends;
    }

no_more : (segment number : ℕ) (q : List ℕ) (qs : List (List ℕ)) (bytes : List ℕ) → IsLog segment number [] bytes
    → IsLog segment number (q ∷ qs) bytes → ⊥
no_more segment number q qs bytes one two =
    let same : number + 0 ≡ number = omega arith in
    subst (λ n. Ends segment n one.rest) same one.ends q (log segment (suc number) qs ++ two.rest) two.frames.0
    (sym one.begins ∙ two.begins ∙ append_assoc (frame segment number q) (log segment (suc number) qs) two.rest)

pub same_log : (segment number : ℕ) (ps qs : List (List ℕ)) (bytes : List ℕ) → IsLog segment number ps bytes
    → IsLog segment number qs bytes → ps ≡ qs
same_log segment number [] [] bytes one two = refl
same_log segment number [] (q ∷ qs) bytes one two = absurd (no_more segment number q qs bytes one two)
same_log segment number (p ∷ ps) [] bytes one two = absurd (no_more segment number p ps bytes two one)
same_log segment number (p ∷ ps) (q ∷ qs) bytes one two =
    let first = same_frame segment number p q (log segment (suc number) ps ++ one.rest) (log segment (suc number) qs ++ two.rest)
    one.frames.0 two.frames.0
    (sym (append_assoc (frame segment number p) (log segment (suc number) ps) one.rest) ∙ sym one.begins ∙ two.begins
    ∙ append_assoc (frame segment number q) (log segment (suc number) qs) two.rest) in
    let rest = same_log segment (suc number) ps qs (log segment (suc number) ps ++ one.rest)
    (later_log segment number p ps bytes one)
    (subst (IsLog segment (suc number) qs) (sym first.1) (later_log segment number q qs bytes two)) in
    (λ i. first.0 i ∷ rest i)
