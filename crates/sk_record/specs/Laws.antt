-- The laws, as statements. Positions, guesses and terminals are any numbers here: where a record has no such position, guess or text, both sides of a law say so.
use Rattle.std.specs.Prelude.{◌≡◌, ℕ, ◌<◌, true, false, List, [], ◌∷◌, ◌++◌, map, take, Some, Ok, slice_get, ◌↔◌}
use Rattle.std.specs.List.{list_any, list_all, Contains}
use Rattle.std.specs.List.Sorted.{IsStrictlyIncreasing}
use Rattle.std.specs.FinMap.{FinMap, get}
use Rattle.sk_record.specs.Step.{Effect}
use Rattle.sk_record.specs.Effects.{MarkedEffect, IsMarked, Dep, writes, keep, place}
use Rattle.sk_record.specs.Run.{System, outcome, run, IsLegal, effects}
use Rattle.sk_record.specs.Strike.{struck, strike}
use Rattle.sk_record.specs.Notes.{has, without, unwound, cut, carried, committed, tags_along}
use Rattle.sk_record.specs.Trace.{Event, Commit, Fail, Status, Undecided, IsDrawn, StatusIs, IsTagAt, IsSound, record_of, effects_of, undecided_of}
use Rattle.sk_record.specs.Release.{IsReleased, IsFront}
use Rattle.sk_record.specs.UndoState.{log_of}
use Rattle.sk_record.specs.Machine.{machine_after, IsPlainRun}

module _ {E V W F N : Type 0} (K : System E V W F N) where
  -- the flags are those of the positions that chains of feeds lead to from g
  abbrev pub FlagsAreDep : Type 0
  FlagsAreDep = (s : FinMap K.order V) (ns : List N) (g i : ℕ) → (slice_get (struck K s ns g) i ≡ Some true) ↔ Dep (effects K s ns) g i

  -- a step that is accepted in s is accepted, with the same reads, writes and text, where all that it reads or writes is the same
  abbrev pub Footprint : Type 0
  Footprint =
      (s t : FinMap K.order V) (n : N) (f : Effect E V W) → outcome K s n ≡ Ok f
      → ((e : E) → Contains (map (λ r. r.0) f.read) e → get s e ≡ get t e)
      → ((e : E) → Contains (map (λ w. w.0) f.written) e → get s e ≡ get t e)
      → outcome K t n ≡ Ok f

-- the position i is the first that depends on g and writes the entity
pub record IsFirstStruckWrite {E V W : Type 0} (ts : List (MarkedEffect E V W)) (g : ℕ) (e : E) (i : ℕ) : Type 0 where
  pub marked_effect : MarkedEffect E V W
  pub at_i : slice_get ts i ≡ Some marked_effect
  pub depends : Dep ts g i
  pub is_written : Contains (writes marked_effect) e
  pub none_before : (j : ℕ) (f : MarkedEffect E V W) → j < i → slice_get ts j ≡ Some f → Dep ts g j → Contains (writes f) e → ⊥

-- no position that depends on g writes the entity
abbrev pub IsUnstruck : {E V W : Type 0} → List (MarkedEffect E V W) → ℕ → E → Type 0
IsUnstruck {E} {V} {W} ts g e = (j : ℕ) (f : MarkedEffect E V W) → slice_get ts j ≡ Some f → Dep ts g j → Contains (writes f) e → ⊥

module _ {E V W F N : Type 0} (K : System E V W F N) where
  -- what the struck run is
  pub record IsStruckRun (s : FinMap K.order V) (ns : List N) (g : ℕ) : Type 0 where
    -- no entry of it is refused
    pub legal : IsLegal K s (strike K s ns g)
    -- each surviving step reads the same values, writes the same and says the same
    pub steps : effects K s (strike K s ns g) ≡ keep (struck K s ns g) (effects K s ns)
    -- an entity has the value that it had before its first struck write
    pub values : (e : E) (i : ℕ) → IsFirstStruckWrite (effects K s ns) g e i → get (run K s (strike K s ns g)) e ≡ get (run K s (take i ns)) e
    -- an entity without a struck write has its last value
    pub others : (e : E) → IsUnstruck (effects K s ns) g e → get (run K s (strike K s ns g)) e ≡ get (run K s ns) e

  -- of a legal record the struck record is legal, and its run is the struck run
  abbrev pub StruckRun : Type 0
  StruckRun = (s : FinMap K.order V) (ns : List N) (g : ℕ) → IsLegal K s ns → IsStruckRun s ns g

  -- what a later failure strikes of the struck run is what it strikes of the whole run, without what is struck already
  abbrev pub Later : Type 0
  Later =
      (s : FinMap K.order V) (ns : List N) (g h : ℕ) → IsLegal K s ns
      → struck K s (strike K s ns g) h ≡ keep (struck K s ns g) (struck K s ns h)

  -- what a later failure strikes of the struck run, by the relation of dependence: the k-th position that is left
  abbrev pub LaterDep : Type 0
  LaterDep =
      (s : FinMap K.order V) (ns : List N) (g h k : ℕ) → IsLegal K s ns
      → Dep (effects K s (strike K s ns g)) h k ↔ Dep (effects K s ns) h (place (struck K s ns g) k)

  -- a guess whose own entry is struck takes with it only what is struck already
  abbrev pub StruckWithin : Type 0
  StruckWithin =
      (s : FinMap K.order V) (ns : List N) (g h : ℕ) → ((j : ℕ) → IsMarked (effects K s ns) h j → Dep (effects K s ns) g j)
      → (i : ℕ) → Dep (effects K s ns) h i → Dep (effects K s ns) g i

  -- each guess that was drawn has exactly one status, and no other number has one
  abbrev pub OneStatus : Type 0
  OneStatus =
      (start : FinMap K.order V) (es : List (Event N)) (g : ℕ) → IsSound K start es
      → (IsDrawn K es g ↔ ((s : Status) × StatusIs K start es g s)) × ((s t : Status) → StatusIs K start es g s → StatusIs K start es g t → s ≡ t)

  -- the undecided guesses that are computed along a trace are those by the definition, each once, by rising number
  abbrev pub UndecidedAre : Type 0
  UndecidedAre =
      (start : FinMap K.order V) (es : List (Event N)) → IsSound K start es
      → ((g : ℕ) → (has g (undecided_of K start es) ≡ true) ↔ StatusIs K start es g Undecided) × IsStrictlyIncreasing (undecided_of K start es)

  -- after a failure each position that is left has the reads, writes, text and tags that it had
  abbrev pub Survivors : Type 0
  Survivors =
      (start : FinMap K.order V) (es : List (Event N)) (c k : ℕ) → IsSound K start (es ++ Fail c ∷ [])
      → (slice_get (effects_of K start (es ++ Fail c ∷ [])) k ≡ slice_get (effects_of K start es) (place (struck K start (record_of K start es) c) k))
      × ((g : ℕ) → IsTagAt K start (es ++ Fail c ∷ []) k g ↔ IsTagAt K start es (place (struck K start (record_of K start es) c) k) g)

  -- the tags that are computed along the effects are the tags of its positions
  abbrev pub TagsAlong : Type 0
  TagsAlong =
      (start : FinMap K.order V) (es : List (Event N)) (i : ℕ) (tags : List ℕ) → IsSound K start es
      → slice_get (tags_along K.order (undecided_of K start es) (λ g. []) (effects_of K start es)) i ≡ Some tags
      → (g : ℕ) → (has g tags ≡ true) ↔ IsTagAt K start es i g

  -- the machine's log of an entity is the log of the record's run
  abbrev pub LogsAreRuns : Type 0
  LogsAreRuns =
      (start : FinMap K.order V) (es : List (Event N)) (e : E) → IsSound K start es
      → (machine_after K start es).state.logs e ≡ log_of K start (record_of K start es) (undecided_of K start es) e

  -- along a log the notes that carry a guess are a suffix: none before the first of them does, and all from it on do
  abbrev pub NotesAreSuffix : Type 0
  NotesAreSuffix =
      (start : FinMap K.order V) (es : List (Event N)) (e : E) (g : ℕ) → IsSound K start es
      → let log = (machine_after K start es).state.logs e in
      (log ≡ cut g log ++ carried g log)
      × (list_any (λ n. has g n.tags) (cut g log) ≡ false)
      × (list_all (λ n. has g n.tags) (carried g log) ≡ true)

  -- unwinding an undecided guess gives the value and the log of the struck run
  abbrev pub UnwindsToStruckRun : Type 0
  UnwindsToStruckRun =
      (start : FinMap K.order V) (es : List (Event N)) (g : ℕ) (e : E) → IsSound K start es → StatusIs K start es g Undecided
      → let m = machine_after K start es in
      (unwound g (m.state.logs e) (m.state.look e) ≡ get (run K start (strike K start (record_of K start es) g)) e)
      × (cut g (m.state.logs e) ≡ log_of K start (strike K start (record_of K start es) g) (undecided_of K start (es ++ Fail g ∷ [])) e)

  -- a commit keeps the value, and of the log what depends on other guesses
  abbrev pub CommitKeeps : Type 0
  CommitKeeps =
      (start : FinMap K.order V) (es : List (Event N)) (g : ℕ) (e : E) → IsSound K start es → StatusIs K start es g Undecided
      → let m = machine_after K start es in
      let after = machine_after K start (es ++ Commit g ∷ []) in
      (after.state.look e ≡ m.state.look e)
      × (after.state.logs e ≡ committed g (m.state.logs e))
      × (after.state.logs e ≡ log_of K start (record_of K start es) (without g (undecided_of K start es)) e)

  -- what was released stays released, first and in the same order, whatever comes later
  abbrev pub StaysReleased : Type 0
  StaysReleased =
      (start : FinMap K.order V) (es later : List (Event N)) (t : ℕ) (before after : List W) → IsSound K start (es ++ later)
      → IsReleased K start es t before → IsReleased K start (es ++ later) t after → IsFront before after

  -- after every sound trace the machine, which runs no step again, is what the plain kernel makes of the trace's record
  abbrev pub MachineIsPlainRun : Type 0
  MachineIsPlainRun = (start : FinMap K.order V) (es : List (Event N)) → IsSound K start es → IsPlainRun K start es (machine_after K start es)
