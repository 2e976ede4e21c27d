-- What an index keeps: the strings by their numbers, and the numbers by what their strings come to under a hash.
use Rattle.std.specs.Prelude.{◌≡◌, ◌==◌, ◌||◌, ◌+◌, ◌<◌, ◌^◌, ℕ, Bool, true, false, List, [], ◌∷◌, Option, Some, None, nat_eq}
use Rattle.std.specs.HashMap.{HashMap}
use Rattle.std.specs.HashMap as hashed
use Rattle.std.specs.declared.cmp.Ordering.{Ordering}
use Rattle.std.specs.Ordering.{nat_cmp, ordering_then}
use Rattle.std.specs.BTreeSet.{BTreeSet, contains}
use Rattle.std.specs.Global.{Vec}
use Rattle.slab.specs.Slab.{Slab, get}
use Rattle.sk_index.specs.Index.{Numbered}

-- the strings in these places, the first of which has this number
abbrev pub numbered : ℕ → List (Option (Vec ℕ)) → Numbered
numbered n [] = []
numbered n (None ∷ vs) = numbered (n + 1) vs
numbered n (Some v ∷ vs) = (v.items, n) ∷ numbered (n + 1) vs

-- pairs are ordered by their first parts, and then by their second
abbrev pub place_cmp : ℕ × ℕ → ℕ × ℕ → Ordering
place_cmp p q = ordering_then (nat_cmp p.0 q.0) (nat_cmp p.1 q.1)

-- the place of a hash that is found first
abbrev pub first_under : {S : Type 0} → HashMap ℕ ℕ S → ℕ → Option ℕ
first_under firsts h = hashed.get nat_eq firsts h

-- whether it is just this place
abbrev pub is_place : Option ℕ → ℕ → Bool
is_place None n = false
is_place (Some m) n = m == n

-- whether a hash has this place: as the first, or in the set of the others
abbrev pub is_under : {S : Type 0} → HashMap ℕ ℕ S → BTreeSet (ℕ × ℕ) → ℕ × ℕ → Bool
is_under firsts others q = is_place (first_under firsts q.0) q.1 || contains place_cmp others q

-- no string is kept twice, and each is found under what it comes to
pub record IsIndex (hash : List ℕ → ℕ) (strings : Slab (Vec ℕ)) (under : ℕ × ℕ → Bool) : Type 0 where
  pub apart : (n m : ℕ) (v w : Vec ℕ) → get strings n ≡ Some v → get strings m ≡ Some w → v.items ≡ w.items → n ≡ m
  pub found : (n : ℕ) (v : Vec ℕ) → get strings n ≡ Some v → under (hash v.items, n) ≡ true
  pub small : (n : ℕ) (v : Vec ℕ) → get strings n ≡ Some v → n < 2 ^ 64
