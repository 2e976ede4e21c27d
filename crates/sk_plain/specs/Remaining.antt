-- What is left of a record when a guess fails, read from left to right.
use Rattle.std.specs.Prelude.{◌≡◌, ℕ, Bool, ◌||◌, List, [], ◌∷◌, Option, Some, None, IsOk}
use Rattle.sk_plain.specs.Base.{list_any, option_or, is_in, is_marked, hits, keep, after, outcome, effects, Entity}
use Rattle.sk_plain.specs.Base.{entity_cmp, State, EntryView, Plan, Refusal, Memory}
use Rattle.sk_plain.specs.Act.{Scripts, plain}
use Rattle.sk_plain.specs.Planned.{read_by, refusal_of}
use Rattle.sk_plain.specs.Seen.{looked, looks_of, written_in}

-- two lists have the same entities
abbrev pub AreAlike : List Entity → List Entity → Type 0
AreAlike one other = (e : Entity) → is_in entity_cmp one e ≡ is_in entity_cmp other e

-- whether the planned step of an entry is the guess, or reads or writes what is dirty
abbrev pub depends : ℕ → List Entity → EntryView → Plan → Bool
depends g dirty n plan =
    is_marked n.guess g || (list_any (is_in entity_cmp dirty) (read_by n.pid n.input (looked (looks_of plan))) || list_any (is_in entity_cmp dirty) (written_in n.pid plan))

-- of the entries to come, those that neither are marked g nor touch what is dirty or becomes so
abbrev pub remaining : Scripts → ℕ → List Entity → State → List EntryView → List EntryView
remaining scripts g dirty s ns = keep (hits entity_cmp g dirty (effects (plain scripts) s ns)) ns

-- the first refusal of a record's steps
abbrev pub refusal_in : Scripts → State → List EntryView → Option Refusal
refusal_in scripts s [] = None
refusal_in scripts s (n ∷ ns) = option_or (refusal_of (outcome (plain scripts) s n)) (refusal_in scripts (after (plain scripts) (outcome (plain scripts) s n) s) ns)

-- the first step of a record is not refused
abbrev pub BeginsWell : Scripts → State → List EntryView → Type 0
BeginsWell scripts s [] = ⊥
BeginsWell scripts s (n ∷ ns) = IsOk (outcome (plain scripts) s n)

-- why a record is not read to its end: want of memory, or the first refusal of its steps
abbrev pub EndsBy : Option Refusal → Refusal → Type 0
EndsBy first Memory = Unit {0}
EndsBy first why = first ≡ Some why
