-- Where the reading of a trace stands: the record so far, of which no failure reaches what is settled.
use Rattle.std.specs.Prelude.{◌≡◌, ℕ, Bool, true, false, not, List, ◌++◌, Option, Some, None}
use Rattle.sk_plain.specs.Base.{run, has, list_any, is_marked, Taken, Commit, Fail, Record, recorded, State, EntryView}
use Rattle.sk_plain.specs.Base.{Event, Happens}
use Rattle.sk_plain.specs.Act.{Scripts, plain}
use Rattle.sk_plain.specs.declared.standing.Standing.{Standing}

-- an event as the laws of traces have it: steps and guesses take an entry
abbrev pub image : Event → Happens EntryView
image (Event.Step pid input) = Taken (record { pid = pid; input = input; guess = None })
image (Event.Guess id pid input) = Taken (record { pid = pid; input = input; guess = Some id })
image (Event.Commit id) = Commit id
image (Event.Fail id) = Fail id

-- whether one of these entries made the guess
abbrev pub is_made : List EntryView → ℕ → Bool
is_made entries g = list_any (λ n. is_marked n.guess g) entries

-- the record so far, with its undecided guesses
abbrev pub seen : Standing → Record EntryView
seen s = record { entries = s.settled.items ++ s.behind.items; undecided = s.undecided.items }

-- whether a guess is none of these
abbrev pub is_other : List ℕ → Option ℕ → Bool
is_other undecided (Some g) = not (has g undecided)
is_other undecided None = true

-- whether an entry made none of them
abbrev pub is_settled : List ℕ → EntryView → Bool
is_settled undecided n = is_other undecided n.guess

-- from this start: entities have in it what they have after the settled entries, none of which made an undecided guess
pub record Stands (scripts : Scripts) (start : State) (s : Standing) : Type 0 where
  pub after : s.after ≡ run (plain scripts) start s.settled.items
  pub unmade : (g : ℕ) → has g s.undecided.items ≡ true → is_made s.settled.items g ≡ false

-- an event may come next: a guess is new, and one that fails is undecided
abbrev pub Fits : Standing → Event → Type 0
Fits s (Event.Guess id pid input) = is_made (seen s).entries id ≡ false
Fits s (Event.Fail id) = has id s.undecided.items ≡ true
Fits s _ = Unit {0}

-- the record with one event more
abbrev pub GoesOn : Scripts → Event → Standing → Standing → Type 0
GoesOn scripts event old new =
    (start : State) → Stands scripts start old → Fits old event → Stands scripts start new × (seen new ≡ recorded (plain scripts) start (seen old) (image event))

-- the record stays as it is, whatever of it is settled
abbrev pub Settles : Scripts → Standing → Standing → Type 0
Settles scripts old new = (start : State) → Stands scripts start old → Stands scripts start new × (seen new ≡ seen old)
