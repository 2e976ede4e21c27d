-- Places of keys, in the order of the keys: each has what the key has, or is only held for it.
use Rattle.std.specs.Prelude.{◌≡◌, ℕ, Bool, true, List, [], ◌∷◌, Option, Some, None, is_some}
use Rattle.std.specs.Global.{Vec}
use Rattle.std.specs.Map.{lookup}
use Rattle.std.specs.BTreeMap.{is_at}
use Rattle.sk_commands.specs.Table.{Written}
use Rattle.sk_plain_store.specs.Plain.{bytes_cmp, Entries}

abbrev pub Places : Type 0
Places = List (Vec ℕ × Option (List ℕ))

-- a key has this
abbrev pub with_entry : List ℕ → Option (List ℕ) → Entries → Entries
with_entry key None entries = entries
with_entry key (Some value) entries = (key, value) ∷ entries

-- the keys that have something, with that
abbrev pub entries_of : Places → Entries
entries_of [] = []
entries_of (p ∷ places) = with_entry p.0.items p.1 (entries_of places)

-- what stands at the place of a key
abbrev pub place_of : Places → List ℕ → Option (Option (List ℕ))
place_of places key = lookup (is_at (λ k. bytes_cmp key k.items)) places

abbrev pub has_place : Places → List ℕ → Bool
has_place places key = is_some (place_of places key)

-- Each key that gets something, or becomes absent, has a place.
abbrev pub HavePlaces : Written → Places → Type 0
HavePlaces [] places = Unit {0}
HavePlaces (w ∷ ws) places = (has_place places w.0 ≡ true) × HavePlaces ws places

-- What had a place has one.
abbrev pub KeepsPlaces : Places → Places → Type 0
KeepsPlaces old new = (key : List ℕ) → has_place old key ≡ true → has_place new key ≡ true
