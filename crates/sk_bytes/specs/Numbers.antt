-- Numbers for the keys of a step, and what is left of them.
use Rattle.std.specs.Prelude.{◌≡◌, ◌⊎◌, ◌&&◌, ℕ, Bool, true, List, [], ◌∷◌, map, Option, Some, None, is_none, if◌then◌else◌, Result, Ok, Err}
use Rattle.sk_bytes.specs.Base.{nat_cmp, Vec, is_in, has, last_tags, SlotView, look_at, log_at, Numbered, string_of}
use Rattle.sk_bytes.specs.Told.{slot_shown, IsTwoWay}

-- of some numbers those are given back of whose keys nothing is known; all others stay whose they were
pub record LetsGo {V : Type 0} (old : Numbered) (some : ℕ → Bool) (slots : List (ℕ × SlotView V)) (new : Numbered) : Type 0 where
  pub two_way : IsTwoWay new
  pub strings : (n : ℕ) → string_of new n ≡ (if some n && is_none (slot_shown slots n) then None else string_of old n)

-- the numbers of a list, or all where there was no memory for the list
abbrev pub listed : {E : Type 0} → Result (Vec ℕ) E → ℕ → Bool
listed (Ok ns) n = is_in nat_cmp ns.items n
listed (Err why) n = true

-- each absent key that depends on the guess is among these
abbrev pub ListsAbsent : {V : Type 0} → List (ℕ × SlotView V) → ℕ → List ℕ → Type 0
ListsAbsent slots g ns = (n : ℕ) → has g (last_tags [] (log_at nat_cmp slots n)) ≡ true → look_at nat_cmp slots n ≡ None → is_in nat_cmp ns n ≡ true

-- numbers are given, which are among these; all others stay whose they were
pub record Gains (old : Numbered) (loose : List ℕ) (new : Numbered) : Type 0 where
  pub two_way : IsTwoWay new
  pub strings : (n : ℕ) → (string_of new n ≡ string_of old n) ⊎ ((string_of old n ≡ None) × (is_in nat_cmp loose n ≡ true))

-- each of these keys has the number that stands at its place in the list
abbrev pub AreNames : {B K : Type 0} → (B → Option K) → List B → List K → Type 0
AreNames key [] [] = Unit {0}
AreNames key (b ∷ bs) (k ∷ ks) = (key b ≡ Some k) × AreNames key bs ks
AreNames key bs ks = ⊥

-- what has names, without what stands behind them
abbrev pub names : {A V : Type 0} → List (A × V) → List A
names ws = map (λ w. w.0) ws

-- with what stands behind others, place by place
abbrev pub exchanged : {A B V : Type 0} → List (A × V) → List (B × V) → List (A × V)
exchanged (l ∷ ls) (r ∷ rs) = (l.0, r.1) ∷ exchanged ls rs
exchanged ls rs = ls
