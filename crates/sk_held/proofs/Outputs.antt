-- The first output of a channel stands behind those of others.
use Rattle.sk_held.proofs.Names.{◌≡◌, ℕ, suc, ◌<◌, ◌≤◌, ◌+◌, Bool, true, false, cond, not, List, [], ◌∷◌, length, refl}
use Rattle.sk_held.proofs.Names.{sym, ap, ◌∙◌, arith, Option, Some, None, ◌++◌, ◌==◌, get_or, prefix_len, remove}
use Rattle.sk_held.proofs.Names.{option_map, is_some, true≢false, eq-eqb, Bor, Output, but_first, first_of}

abbrev pub is_other : ℕ → Output → Bool
is_other t o = not (o.channel == t)

one_more : (n : ℕ) → 1 + n ≡ suc n
one_more n = omega arith

pub first_at : (t k : ℕ) (os : List Output) (d : Output) → k ≡ prefix_len (is_other t) os → k < length os → first_of t os ≡ Some (get_or os k d).bytes.items
first_at t k [] d is lt = absurd (omega arith)
first_at t k (o ∷ os) d is lt =
    elim (o.channel == t) as (λ b. k ≡ cond (not b) (1 + prefix_len (is_other t) os) 0 → cond b (Some o.bytes.items) (first_of t os) ≡ Some (get_or (o ∷ os) k d).bytes.items) [
      | true ↦ λ none. ap (λ j. Some (get_or (o ∷ os) j d).bytes.items) (sym none)
      | false ↦ λ more. first_at t (prefix_len (is_other t) os) os d refl (omega (arith, lt, more)) ∙ ap (λ j. Some (get_or (o ∷ os) j d).bytes.items) (sym (more ∙ one_more (prefix_len (is_other t) os)))
    ] is

pub first_none : (t k : ℕ) (os : List Output) → k ≡ prefix_len (is_other t) os → length os ≤ k → first_of t os ≡ None
first_none t k [] is le = refl
first_none t k (o ∷ os) is le =
    elim (o.channel == t) as (λ b. k ≡ cond (not b) (1 + prefix_len (is_other t) os) 0 → cond b (Some o.bytes.items) (first_of t os) ≡ None) [
      | true ↦ λ none. absurd (omega (arith, le, none))
      | false ↦ λ more. first_none t (prefix_len (is_other t) os) os refl (omega (arith, le, more))
    ] is

pub but_at : (t k : ℕ) (os : List Output) → k ≡ prefix_len (is_other t) os → k < length os → remove os k ≡ but_first t os
but_at t k [] is lt = absurd (omega arith)
but_at t k (o ∷ os) is lt =
    elim (o.channel == t) as (λ b. k ≡ cond (not b) (1 + prefix_len (is_other t) os) 0 → remove (o ∷ os) k ≡ cond b os (o ∷ but_first t os)) [
      | true ↦ λ none. ap (remove (o ∷ os)) none
      | false ↦ λ more. ap (remove (o ∷ os)) (more ∙ one_more (prefix_len (is_other t) os)) ∙ ap (λ ps. o ∷ ps) (but_at t (prefix_len (is_other t) os) os refl (omega (arith, lt, more)))
    ] is

pub but_none : (t k : ℕ) (os : List Output) → k ≡ prefix_len (is_other t) os → length os ≤ k → os ≡ but_first t os
but_none t k [] is le = refl
but_none t k (o ∷ os) is le =
    elim (o.channel == t) as (λ b. k ≡ cond (not b) (1 + prefix_len (is_other t) os) 0 → o ∷ os ≡ cond b os (o ∷ but_first t os)) [
      | true ↦ λ none. absurd (omega (arith, le, none))
      | false ↦ λ more. ap (λ ps. o ∷ ps) (but_none t (prefix_len (is_other t) os) os refl (omega (arith, le, more)))
    ] is

-- none is shown
pub none_shown : (o : Option (Bor (List ℕ))) (x : Option (List ℕ)) → option_map (λ s. s.now) o ≡ x → is_some o ≡ false → x ≡ None
none_shown None x e off = sym e
none_shown (Some s) x e off = absurd (true≢false off)

-- one that is pushed is found
pub pushed : {A : Type 0} (t : ℕ) (os : List Output) (o : Output) → o.channel ≡ t → first_of t (os ++ o ∷ []) ≡ None → A
pushed {A} t [] o is none =
    let there : Some o.bytes.items ≡ None = ap (λ b. cond b (Some o.bytes.items) None) (sym (eq-eqb o.channel t is)) ∙ none in cc
pushed {A} t (p ∷ os) o is none =
    elim (p.channel == t) as (λ b. cond b (Some p.bytes.items) (first_of t (os ++ o ∷ [])) ≡ None → A) [
      | true ↦ λ off. (let there : Some p.bytes.items ≡ None = off in cc)
      | false ↦ λ off. pushed t os o is off
    ] none
