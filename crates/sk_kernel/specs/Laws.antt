-- What the laws of kernels say.
use Rattle.std.specs.Prelude.{◌≡◌, ◌↔◌, ℕ, true, false, ◌||◌, List, ◌++◌, replicate, map as each_of, Some, None, Ok}
use Rattle.sk_kernel.specs.Base.{list_any, eq_by_cmp, is_in, is_marked, written_value, has, Effect, IsDrawn, IsEpoch}
use Rattle.sk_kernel.specs.Base.{Status, entity_cmp, Entity, Proc, Process, EntryView, Event, EntityState, plain}
use Rattle.sk_kernel.specs.Base.{Saying, Input}
use Rattle.std.specs.FinMap as map
use Rattle.sk_kernel.specs.Kernel.{KernelView, HasStatus, RestsOn, events_of, record_at, state_at, undecided_at, tags_at, next_guess, entry, effect_at, too_many}

-- the trace of a kernel is sound, all guesses of earlier epochs are decided, and those of the trace have greater numbers
abbrev pub HasSoundTrace : KernelView → Type 0
HasSoundTrace k = IsEpoch (plain k.scripts) k.start k.earlier (events_of k)

-- the guess was made
abbrev pub WasDrawn : KernelView → ℕ → Type 0
WasDrawn k id = IsDrawn (plain k.scripts) (events_of k) id

-- after these events more
abbrev pub with_events : KernelView → List Event → KernelView
with_events k es = record k { trace = k.trace ++ es }

-- two kernels answer each call alike, but for the trace, where it begins, its room and the texts: what the answers are made of is the same
pub record AnswersAlike (old new : KernelView) : Type 0 where
  pub number : new.number ≡ old.number
  pub scripts : new.scripts ≡ old.scripts
  pub state : state_at new ≡ state_at old
  pub tags : (e : Entity) → tags_at new e ≡ tags_at old e
  pub rests : (e : Entity) (id : ℕ) → RestsOn new e id ↔ RestsOn old e id
  pub undecided : undecided_at new ≡ undecided_at old
  pub next : next_guess new ≡ next_guess old
  pub statuses : (id : ℕ) (s : Status) → HasStatus new id s ↔ HasStatus old id s
  -- each step does the same, and as many guesses are too many
  pub steps : (n : EntryView) → effect_at new n ≡ effect_at old n
  pub many : too_many new ≡ too_many old

-- each entity that the step of an entry does not write, where it is accepted, has the value and the tags that it had
abbrev pub KeepsUnwritten : KernelView → EntryView → KernelView → Type 0
KeepsUnwritten old n new =
    (f : Effect Entity EntityState Saying) (e : Entity) → effect_at old n ≡ Ok f → is_in entity_cmp (each_of (λ w. w.0) f.written) e ≡ false
    → (map.get (state_at new) e ≡ map.get (state_at old) e) × (tags_at new e ≡ tags_at old e)

-- an entity has what the writes of a step leave it, and depends on just the undecided guesses that something read or written did, and on the step's own
pub record IsWritten (old new : KernelView) (n : EntryView) (f : Effect Entity EntityState Saying) (e : Entity) : Type 0 where
  pub value : map.get (state_at new) e ≡ written_value entity_cmp f.written e (map.get (state_at old) e)
  pub tags : (id : ℕ) → has id (tags_at new e)
      ≡ (is_marked n.guess id || list_any (λ x. has id (tags_at old x)) (each_of (λ r. r.0) f.read ++ each_of (λ w. w.0) f.written))

-- each entity that the step of an entry writes, where it is accepted, has what the step leaves it, and depends on what the step does
abbrev pub WritesAll : KernelView → EntryView → KernelView → Type 0
WritesAll old n new =
    (f : Effect Entity EntityState Saying) (e : Entity) → effect_at old n ≡ Ok f → is_in entity_cmp (each_of (λ w. w.0) f.written) e ≡ true → IsWritten old new n f e

-- the instructions of a hand-in are as many entries more of the record, and leave the process as it became and all else as it was
pub record AreEntries (old new : KernelView) (pid n : ℕ) (p : Process) : Type 0 where
  pub entries : record_at new ≡ record_at old ++ replicate n (entry pid Input.None None)
  pub process : map.get (state_at new) (Proc pid) ≡ Some (EntityState.Process p)
  pub others : (e : Entity) → eq_by_cmp entity_cmp e (Proc pid) ≡ false → map.get (state_at new) e ≡ map.get (state_at old) e
