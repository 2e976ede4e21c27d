-- Writes with the place of the last one of each key.
use Rattle.std.specs.Prelude.{◌≡◌, ℕ, ◌<◌, Bool, true, false, List, Option, Some, None, is_some, length, map, slice_get, bytes_eq, if◌then◌else◌}
use Rattle.std.specs.BTreeMap.{is_at}
use Rattle.std.specs.Hash.DefaultHasher.{finish, initial, write}
use Rattle.std.specs.Map.{lookup}
use Rattle.sk_commands.specs.Base.{nat_cmp, slice_cmp, Vec}
use Rattle.sk_commands.specs.Table.{is_among, told, Have}
use Rattle.sk_commands.specs.Work.{after}
use Rattle.sk_commands.specs.declared.noted.Places.{Places}

-- what a key gets, by its bytes as they are kept
abbrev pub Kept : Type 0
Kept = Vec ℕ × Option (List ℕ)

-- what a key comes to under a hash
abbrev pub digest_of : List ℕ → ℕ
digest_of key = finish (write initial key)

-- the place that is kept of a key under its digest, and by its bytes
abbrev pub first_under : List (ℕ × ℕ) → List ℕ → Option ℕ
first_under firsts key = lookup (is_at (nat_cmp (digest_of key))) firsts

abbrev pub place_in : List (Vec ℕ × ℕ) → List ℕ → Option ℕ
place_in others key = lookup (is_at (λ k. slice_cmp nat_cmp key k.items)) others

-- the write at a place, if one is kept
abbrev pub write_at : List Kept → Option ℕ → Option Kept
write_at ws None = None
write_at ws (Some i) = slice_get ws i

-- whether there is one, and of this key
abbrev pub is_of : List ℕ → Option Kept → Bool
is_of key None = false
is_of key (Some w) = bytes_eq key w.0.items

-- the place of a key: under its digest, where the write there is its own, and else by its bytes
abbrev pub place_of : Places → List Kept → List ℕ → Option ℕ
place_of p ws key =
    let first = first_under p.firsts.entries key in
    if is_of key (write_at ws first) then first else place_in p.others.entries key

-- whether a write of the key has its place under the digest, since no other key has
abbrev pub goes_first : List ℕ → List Kept → Option ℕ → Bool
goes_first key ws None = true
goes_first key ws (Some i) = is_of key (slice_get ws i)

-- what a key has behind its last write, or without one
abbrev pub had_by : Option Kept → Option (List ℕ) → Option (List ℕ)
had_by None has = has
had_by (Some w) has = w.1

-- The place of the last write of each key is kept, and that of no other key.
pub record AreLast (place : List ℕ → Option ℕ) (ws : List Kept) : Type 0 where
  pub values : (key : List ℕ) (has : Have) → after (told ws) has key ≡ had_by (write_at ws (place key)) (has key)
  pub named : (key : List ℕ) → is_some (place key) ≡ is_among key (map (λ w. w.0) (told ws))
  pub below : (key : List ℕ) (i : ℕ) → place key ≡ Some i → i < length ws

-- so are these
pub record AreKept (p : Places) (ws : List Kept) : Type 0 where
  pub last : AreLast (place_of p ws) ws
  pub firsts_below : (key : List ℕ) (i : ℕ) → first_under p.firsts.entries key ≡ Some i → i < length ws
