-- The keys that work names, and that none of them is a batch's.
use Rattle.std.specs.Prelude.{◌≡◌, ℕ, Bool, false, List, [], ◌∷◌, map}
use Rattle.sk_served.specs.Base.{list_any, Event, Taken, Commit, Fail, Command, MSet, Set, Work, asks, pairs_of}
use Rattle.sk_served.specs.Base.{is_reserved}
use Rattle.sk_served.specs.Served.{Entry, Opens, Runs}

-- the keys that a command names: those that it looks at, and those that SET and MSET set
abbrev pub names_of : Command → List (List ℕ)
names_of (Set key value options) = key ∷ []
names_of (MSet words) = map (λ w. w.0) (pairs_of words)
names_of other = asks [] other

-- whether one of them is reserved
abbrev pub command_names_reserved : Command → Bool
command_names_reserved command = list_any is_reserved (names_of command)

abbrev pub names_reserved : Work → Bool
names_reserved (Work.Say reply) = false
names_reserved (Work.One command) = command_names_reserved command
names_reserved (Work.Each commands) = list_any command_names_reserved commands

-- Its work names no key that is a batch's.
abbrev pub NamesNoReserved : Entry → Type 0
NamesNoReserved (Opens n) = Unit {0}
NamesNoReserved (Runs a) = names_reserved a.work ≡ false

-- The work of each entry that is taken names no key that is a batch's.
abbrev pub NoneTakenNamesReserved : List (Event Entry) → Type 0
NoneTakenNamesReserved [] = Unit {0}
NoneTakenNamesReserved (Taken n ∷ es) = NamesNoReserved n × NoneTakenNamesReserved es
NoneTakenNamesReserved (other ∷ es) = NoneTakenNamesReserved es
