-- Values under keys, in the order of a list of these keys.
use Rattle.std.specs.Prelude.{◌≡◌, ℕ, true, false, List, [], ◌∷◌, length, filter_map, Option, None, is_some, slice_index_or, ⊤}
use Rattle.sk_guesses.specs.Base.{AllByRecursion, Slab, slab_len, has}

-- the values in their order, and for how many there is memory
pub record InOrder (T : Type 0) : Type 0 where
  pub items : List T
  pub places : ℕ

-- the values of these keys, in their order
abbrev pub in_order : {T : Type 0} → List (Option T) → List ℕ → List T
in_order slots ks = filter_map (λ k. slice_index_or slots k None) ks

-- each of these keys has a value
abbrev pub ArePresent : {T : Type 0} → List (Option T) → List ℕ → Type 0
ArePresent slots ks = AllByRecursion (λ k. is_some (slice_index_or slots k None) ≡ true) ks

-- none of these keys is there twice
abbrev pub AreApart : List ℕ → Type 0
AreApart [] = ⊤
AreApart (k ∷ ks) = (has k ks ≡ false) × AreApart ks

-- each of these keys has a value, none is there twice, and there are no more values than keys
pub record AreKeys {T : Type 0} (values : Slab T) (keys : List ℕ) : Type 0 where
  pub present : ArePresent values.slots keys
  pub apart : AreApart keys
  pub all : slab_len values ≡ length keys
