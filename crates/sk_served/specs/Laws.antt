-- The laws of the store's steps.
use Rattle.std.specs.Prelude.{◌≡◌, ◌<◌, ℕ, true, List, ◌++◌, map, slice_get, Some, Ok}
use Rattle.sk_served.specs.Base.{AllByRecursion, FinMap, get, is_sorted, perform, Dep, effects, run, Event, IsSound}
use Rattle.sk_served.specs.Base.{record_of, said_from, Machine, IsPlainRun, effect_of, with_told, Told, Work, Answer}
use Rattle.sk_served.specs.Base.{Have, after_work, after_works, bytes_cmp, held, Entries, Carries}
use Rattle.sk_served.specs.Served.{act, deed, served, Asked, Entry, Opens, Runs}
use Rattle.sk_served.specs.Names.{NamesNoReserved, NoneTakenNamesReserved}
use Rattle.sk_served.specs.Plain.{answer_to, entries_after, replies_to, writing}
use Rattle.sk_served.specs.Known.{AreTold, HasNoReserved, LeaveOutNothing}

-- A step does just what its deed says, whatever keys have.
abbrev pub EntriesAct : Type 0
EntriesAct = (entry : Entry) (has : Have) → perform has (act entry) ≡ Ok (effect_of has (deed entry has))

-- What is said of a plain store is what its calls do.
abbrev pub PlainStoresDo : Type 0
PlainStoresDo = (work : Work) (entries : Entries)
    → Carries work entries (Ok (answer_to work entries)) (after_work work entries)

-- Work that a batch logs depends on its guess, where the batch begins before it.
abbrev pub RestsOnItsBatch : Type 0
RestsOnItsBatch = (start : FinMap served.order (List ℕ)) (ns : List Entry) (j i n : ℕ) (asked : Asked)
    → j < i → slice_get ns j ≡ Some (Opens n) → slice_get ns i ≡ Some (Runs asked) → asked.batch ≡ Some n
    → Dep (effects served start ns) n i

-- A map has what the plain store holds, and that is in order and has no reserved key.
pub record HoldsSame (s : FinMap served.order (List ℕ)) (entries : Entries) : Type 0 where
  pub same : (key : List ℕ) → get s key ≡ held entries key
  pub in_order : is_sorted bytes_cmp entries ≡ true
  pub none_reserved : HasNoReserved (held entries)

-- The plain run of entries leaves just what the plain store holds after their works, and says just its answers.
abbrev pub RunsAsPlainStore : Type 0
RunsAsPlainStore = (start : FinMap served.order (List ℕ)) (entries : Entries) (ns : List Entry)
    → HoldsSame start entries → AllByRecursion NamesNoReserved ns → AreTold start ns
    → HoldsSame (run served start ns) (entries_after ns entries)
    × ((t i : ℕ) → map (λ x. x.0) (said_from served t i (effects served start ns)) ≡ replies_to t ns entries)

-- Of what the works of entries leave, those that may write are all.
abbrev pub WritingIsAll : Type 0
WritingIsAll = (ns : List Entry) (entries : Entries) → entries_after ns entries ≡ after_works (writing ns) entries

-- What is known of all keys when an entry is taken is known in the plain run of those that are left, whatever failed
-- since.
abbrev pub StaysTold : Type 0
StaysTold = (start : FinMap served.order (List ℕ)) (es : List (Event Entry))
    → IsSound served start es → LeaveOutNothing start es → AreTold start (record_of served start es)

-- After any calls each key has just what the plain store holds after the works of the entries that depend on no failed
-- guess, and what was told to a channel, with what is there, is just its answers to these.
abbrev pub StoreRunsAsPlain : Type 0
StoreRunsAsPlain =
    (start : FinMap served.order (List ℕ)) (entries : Entries) (es : List (Event Entry)) (told : Told (ℕ × Answer))
    (m : Machine (List ℕ) (List ℕ) (ℕ × (ℕ × Answer)))
    → HoldsSame start entries → IsSound served start es → NoneTakenNamesReserved es → LeaveOutNothing start es
    → IsPlainRun served start es (with_told told m)
    → let left = record_of served start es in
    ((key : List ℕ) → m.state.look key ≡ held (entries_after left entries) key)
    × ((t : ℕ) → told t ++ map (λ x. x.0) (m.texts t) ≡ replies_to t left entries)
