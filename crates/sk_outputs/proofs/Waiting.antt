-- How many outputs wait.
use Rattle.sk_outputs.proofs.Names.{◌≡◌, ℕ, zero, suc, ◌+◌, ◌&&◌, ◌||◌, true, false, not, cond, List, [], ◌∷◌, length}
use Rattle.sk_outputs.proofs.Names.{refl, sym, ◌∙◌, ap, arith, ◌==◌, ◌-◌, nat_lt, true≢false, Tagged, released}
use Rattle.sk_outputs.proofs.Names.{released_if, Said, said_at, waiting_of, is_empty}

module _ {W : Type 0} where
  -- the first goes out
  free_first : (x : Tagged W) (xs : List (Tagged W)) → is_empty x.1 ≡ true → waiting_of (x ∷ xs) ≡ waiting_of xs
  free_first x xs bare = by_tags x.1 bare where
    one_less : (a b : ℕ) → suc a - suc b ≡ a - b
    one_less a b = omega arith

    by_tags : (tags : List ℕ) → is_empty tags ≡ true → suc (length xs) - length (released_if tags x.0 (released xs)) ≡ length xs - length (released xs)
    by_tags [] bare = one_less (length xs) (length (released xs))
    by_tags (t ∷ tags) bare = absurd (true≢false (sym bare))

  -- or it waits, and all behind it
  held_first : (x : Tagged W) (xs : List (Tagged W)) → is_empty x.1 ≡ false → waiting_of (x ∷ xs) ≡ suc (length xs)
  held_first x xs some = by_tags x.1 some where
    none_less : (a : ℕ) → suc a - 0 ≡ suc a
    none_less a = omega arith

    by_tags : (tags : List ℕ) → is_empty tags ≡ false → suc (length xs) - length (released_if tags x.0 (released xs)) ≡ suc (length xs)
    by_tags [] some = absurd (true≢false some)
    by_tags (t ∷ tags) some = none_less (length xs)

-- how many are left to count, where so many wait
abbrev pub left_of : {W : Type 0} → ℕ → List (Tagged W) → ℕ
left_of zero xs = waiting_of xs
left_of (suc n) xs = suc n + length xs

-- one output more is counted, or goes out
pub next_of : {O : Type 0} (to held : ℕ) (x : Tagged (ℕ × O)) (xs : Said O)
    → left_of (cond ((x.0.0 == to) && (nat_lt 0 held || not (is_empty x.1))) (held + 1) held) (said_at xs to) ≡ left_of held (said_at (x ∷ xs) to)
next_of {O} to held x xs =
    elim (x.0.0 == to) as (λ b. left_of (cond (b && (nat_lt 0 held || not (is_empty x.1))) (held + 1) held) (said_at xs to) ≡ left_of held (cond b (x ∷ said_at xs to) (said_at xs to))) [
      | true ↦ own held
      | false ↦ refl
    ] where
      first : left_of (cond (not (is_empty x.1)) 1 0) (said_at xs to) ≡ waiting_of (x ∷ said_at xs to)
      first =
          elim (is_empty x.1) as (λ b. is_empty x.1 ≡ b → left_of (cond (not b) 1 0) (said_at xs to) ≡ waiting_of (x ∷ said_at xs to)) [
            | true ↦ λ bare. sym (free_first x (said_at xs to) bare)
            | false ↦ λ some. one_more (length (said_at xs to)) ∙ sym (held_first x (said_at xs to) some)
          ] refl where
            one_more : (n : ℕ) → 1 + n ≡ suc n
            one_more n = omega arith

      own : (held : ℕ) → left_of (cond (nat_lt 0 held || not (is_empty x.1)) (held + 1) held) (said_at xs to) ≡ left_of held (x ∷ said_at xs to)
      own zero = first
      own (suc n) =
          let some : nat_lt 0 (suc n) ≡ true = grind arith in
          let next : suc n + 1 ≡ suc (suc n) = omega arith in
          let moved : suc (suc n) + length (said_at xs to) ≡ suc n + suc (length (said_at xs to)) = omega arith in
          ap (λ b. left_of (cond (b || not (is_empty x.1)) (suc n + 1) (suc n)) (said_at xs to)) some ∙ ap (λ k. left_of k (said_at xs to)) next ∙ moved
