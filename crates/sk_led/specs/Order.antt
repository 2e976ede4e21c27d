-- One order of commands over many leaderships.
use Rattle.std.specs.Prelude.{◌≡◌, ◌+◌, ℕ, List, [], ◌∷◌, ◌++◌, take, Some}
use Rattle.sk_led.specs.Base.{Contains, Entries, after_works, entries_after, Asked, Entry, Runs}
use Rattle.sk_led.specs.Base.{entries, logged, stands, IsLogged, new_world, Move, Moves, World}
use Rattle.sk_led.specs.Laws.{IsReign, Reign}

-- One after another, each begins with what the works that were found of the one before leave.
abbrev pub AreReigns : (List ℕ → List ℕ) → World → Entries → List Reign → Entries → Type 0
AreReigns payload_in w start [] end = end ≡ start
AreReigns payload_in w start (r ∷ rs) end = IsReign payload_in w start r × AreReigns payload_in w (after_works r.works start) rs end

-- all commands that a batch logs which was told as logged are among these
abbrev pub HasSettled : Reign → List Entry → Type 0
HasSettled r order = (asked : Asked) (batch : ℕ) → Contains (entries (stands r.calls)) (Runs asked) → asked.batch ≡ Some batch
    → IsLogged r.calls batch → Contains order (Runs asked)

-- The commands of one leadership stand behind those of the one before: of each the first of those that were logged, with all that are settled.
abbrev pub IsOrdered : List Reign → List Entry → Type 0
IsOrdered [] order = order ≡ []
IsOrdered (r ∷ rs) order = (count : ℕ) × (later : List Entry) × (order ≡ take count (logged r.calls r.store) ++ later)
    × HasSettled r (take count (logged r.calls r.store)) × IsOrdered rs later

-- There is one order of commands, and the last leadership begins with what the plain store has behind it.
abbrev pub OneOrder : Type 0
OneOrder = (payload_in : List ℕ → List ℕ) (moves : List Move) (w : World) (start end : Entries) (rs : List Reign) → Moves new_world moves w
    → AreReigns payload_in w start rs end → (order : List Entry) × (end ≡ entries_after order start) × IsOrdered rs order
