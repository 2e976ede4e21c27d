-- What work that is told of all keys must know.
use Rattle.std.specs.Prelude.{◌≡◌, ℕ, true, false, List, [], ◌∷◌, ◌++◌, None, is_some}
use Rattle.sk_served.specs.Base.{IsStrictlySortedBy, FinMap, get, is_sorted, after, outcome, run, Event, Taken}
use Rattle.sk_served.specs.Base.{IsTagOf, record_of, Work, is_among, Have, comes_to, wants_all, bytes_cmp, held}
use Rattle.sk_served.specs.Base.{keys_of, Entries, is_reserved}
use Rattle.sk_served.specs.Served.{served, Asked, Entry, Opens, Runs}

-- No reserved key is there.
abbrev pub HasNoReserved : Have → Type 0
HasNoReserved has = (key : List ℕ) → is_reserved key ≡ true → has key ≡ None

-- The keys rise by their bytes, and each that is there is among them, but for reserved ones.
abbrev pub KnowsAll : List (List ℕ) → Have → Type 0
KnowsAll known has = IsStrictlySortedBy bytes_cmp known
    × ((key : List ℕ) → is_reserved key ≡ false → is_some (has key) ≡ true → is_among key known ≡ true)

-- The keys rise by their bytes, and `so` holds of each key that is not among them, but for reserved ones.
abbrev pub LeavesOut : (List ℕ → Type 0) → List (List ℕ) → Type 0
LeavesOut so known = IsStrictlySortedBy bytes_cmp known
    × ((key : List ℕ) → is_reserved key ≡ false → is_among key known ≡ false → so key)

-- Which absent keys are known too changes nothing; and a plain store knows its keys.
abbrev pub MoreMayBeKnown : Type 0
MoreMayBeKnown = (work : Work) (known others : List (List ℕ)) (has : Have)
    → HasNoReserved has → KnowsAll known has → KnowsAll others has → comes_to known work has ≡ comes_to others work has

abbrev pub PlainStoreKnows : Type 0
PlainStoreKnows = (entries : Entries) → is_sorted bytes_cmp entries ≡ true → KnowsAll (keys_of entries) (held entries)

-- Where the entry is told of all keys it knows them.
abbrev pub IsTold : Have → Entry → Type 0
IsTold has (Opens n) = Unit {0}
IsTold has (Runs a) = wants_all a.work ≡ true → KnowsAll a.known has

-- Each entry of a run that is told of all keys knows them, by what keys have when it is carried out.
abbrev pub AreTold : FinMap served.order (List ℕ) → List Entry → Type 0
AreTold s [] = Unit {0}
AreTold s (n ∷ ns) = IsTold (get s) n × AreTold (after served (outcome served s n) s) ns

module _ (start : FinMap served.order (List ℕ)) where
  -- The key is absent and depends on no guess.
  abbrev pub IsClear : List (Event Entry) → List ℕ → Type 0
  IsClear es key = (get (run served start (record_of served start es)) key ≡ None) × ((g : ℕ) → ¬ (IsTagOf served start es key g))

  -- What an entry that is told of all keys leaves out is clear, when it is taken.
  abbrev pub LeaveOutNothing : List (Event Entry) → Type 0
  LeaveOutNothing es = (before later : List (Event Entry)) (asked : Asked)
      → es ≡ before ++ Taken (Runs asked) ∷ later → wants_all asked.work ≡ true → LeavesOut (IsClear before) asked.known
