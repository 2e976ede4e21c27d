-- The first output of a channel.
use Rattle.sk_outputs.proofs.Names.{◌≡◌, ℕ, zero, suc, ◌+◌, ◌<◌, Bool, true, false, not, cond, [], ◌∷◌, length, refl}
use Rattle.sk_outputs.proofs.Names.{sym, ◌∙◌, ap, arith, ◌==◌, slice_index_or, Some, None, prefix_len, remove, eqb-true}
use Rattle.sk_outputs.proofs.Names.{Tagged, Said, said_at, first_of}

module _ {O : Type 0} where
  abbrev pub other : ℕ → Tagged (ℕ × O) → Bool
  other to o = not (o.0.0 == to)

  -- it stands at its place
  pub first_said : (to i : ℕ) (xs : Said O) (x : Tagged (ℕ × O)) → i ≡ prefix_len (other to) xs → i < length xs → x ≡ slice_index_or xs i x → (said_at xs to ≡ x ∷ said_at (remove xs i) to) × (x.0.0 ≡ to)
  first_said to i [] x is lt at = absurd (omega arith)
  first_said to zero (y ∷ xs) x is lt at =
      elim (y.0.0 == to) as (λ b. (y.0.0 == to) ≡ b → zero ≡ cond (not b) (1 + prefix_len (other to) xs) 0 → (cond b (y ∷ said_at xs to) (said_at xs to) ≡ x ∷ said_at xs to) × (x.0.0 ≡ to)) [
        | true ↦ λ same _. (ap (λ z. z ∷ said_at xs to) (sym at), ap (λ (z : Tagged (ℕ × O)). z.0.0) at ∙ eqb-true y.0.0 to same)
        | false ↦ λ _ later. absurd (omega arith)
      ] refl is
  first_said to (suc i) (y ∷ xs) x is lt at =
      elim (y.0.0 == to) as (λ b. suc i ≡ cond (not b) (1 + prefix_len (other to) xs) 0 → (cond b (y ∷ said_at xs to) (said_at xs to) ≡ x ∷ cond b (y ∷ said_at (remove xs i) to) (said_at (remove xs i) to)) × (x.0.0 ≡ to)) [
        | true ↦ λ first. absurd (omega arith)
        | false ↦ λ later. first_said to i xs x (omega arith) (omega arith) at
      ] is

  -- the first of the channel
  pub first_there : (to i : ℕ) (xs : Said O) (x : Tagged (ℕ × O)) → i ≡ prefix_len (other to) xs → i < length xs → x ≡ slice_index_or xs i x → Some x.0.1 ≡ first_of (said_at xs to)
  first_there to i xs x is lt at = sym (ap first_of (first_said to i xs x is lt at).0)

  pub first_none : (to i : ℕ) (xs : Said O) → i ≡ prefix_len (other to) xs → (i < length xs → ⊥) → None ≡ first_of (said_at xs to)
  first_none to i [] is far = refl
  first_none to i (x ∷ xs) is far =
      elim (x.0.0 == to) as (λ b. i ≡ cond (not b) (1 + prefix_len (other to) xs) 0 → None ≡ first_of (cond b (x ∷ said_at xs to) (said_at xs to))) [
        | true ↦ λ first. absurd (far (omega (arith, first)))
        | false ↦ λ later. first_none to (prefix_len (other to) xs) xs refl (λ lt. far (omega (arith, later, lt)))
      ] is

  -- the other channels keep theirs
  pub others_kept : (t i : ℕ) (xs : Said O) (x : Tagged (ℕ × O)) → i < length xs → x ≡ slice_index_or xs i x → (x.0.0 == t) ≡ false → said_at (remove xs i) t ≡ said_at xs t
  others_kept t i [] x lt at other = absurd (omega arith)
  others_kept t zero (y ∷ xs) x lt at other = sym (ap (λ b. cond b (y ∷ said_at xs t) (said_at xs t)) (ap (λ (z : Tagged (ℕ × O)). z.0.0 == t) (sym at) ∙ other))
  others_kept t (suc i) (y ∷ xs) x lt at other = ap (λ ys. cond (y.0.0 == t) (y ∷ ys) ys) (others_kept t i xs x (omega arith) at other)
