-- Notes: the newest, the first that depends on a guess, and those that a commit leaves.
use Rattle.sk_slots.proofs.Names.{◌≡◌, ℕ, zero, suc, ◌+◌, ◌-◌, ◌<◌, length, take, Bool, true, false, not, cond, List}
use Rattle.sk_slots.proofs.Names.{[], ◌∷◌, ◌++◌, refl, ◌∙◌, ap, arith, slice_index_or, prefix_len, exact_bytes, Note}
use Rattle.sk_slots.proofs.Names.{has, last_tags, cut, same_tags, goes_unnoted}

module _ {V : Type 0} where
  pub last_at : (t : List ℕ) (log : List (Note V)) (n : Note V) (i : ℕ) → i + 1 ≡ length log → n ≡ slice_index_or log i n → n.tags ≡ last_tags t log
  last_at t [] n i is at = absurd (omega arith)
  last_at t (x ∷ []) n zero is at = ap (λ (m : Note V). m.tags) at
  last_at t (x ∷ []) n (suc i) is at = absurd (omega arith)
  last_at t (x ∷ y ∷ log) n zero is at = absurd (omega arith)
  last_at t (x ∷ y ∷ log) n (suc i) is at = last_at x.tags (y ∷ log) n i (omega arith) at

  pub newest : (log : List (Note V)) (n : Note V) → 0 < length log → ((d : Note V) → n ≡ slice_index_or log (length log - 1) d) → n.tags ≡ last_tags [] log
  newest log n some at = last_at [] log n (length log - 1) (omega arith) (at n)

  pub last_more : (t : List ℕ) (log : List (Note V)) (n : Note V) → last_tags t (log ++ n ∷ []) ≡ n.tags
  last_more t [] n = refl
  last_more t (x ∷ log) n = last_more x.tags log n

  abbrev pub is_apart : ℕ → Note V → Bool
  is_apart g n = not (has g n.tags)

  pub cut_at : (g : ℕ) (log : List (Note V)) (i : ℕ) → i ≡ prefix_len (λ n. not (has g n.tags)) log → take i log ≡ cut g log
  cut_at g [] zero is = refl
  cut_at g [] (suc i) is = refl
  cut_at g (x ∷ log) i is =
      elim (has g x.tags) as (λ b. i ≡ cond (not b) (1 + prefix_len (λ n. not (has g n.tags)) log) 0 → take i (x ∷ log) ≡ cond b [] (x ∷ cut g log)) [
        | true ↦ λ first. ap (λ j. take j (x ∷ log)) first
        | false ↦ λ later.
            let next : i ≡ suc (prefix_len (λ n. not (has g n.tags)) log) = omega arith in
            ap (λ j. take j (x ∷ log)) next ∙ ap (λ ns. x ∷ ns) (cut_at g log (prefix_len (λ n. not (has g n.tags)) log) refl)
      ] is

module _ {V : Type 0} where
  pub noted_again : (tags : List ℕ) (log : List (Note V)) (n : Note V) → n.tags ≡ tags → goes_unnoted tags (log ++ n ∷ []) ≡ true
  noted_again tags log n is = ap (same_tags tags) (last_more [] log n ∙ is) ∙ (exact_bytes tags tags).1 refl
