-- Traces of steps, guesses, commits and failures: the record that a trace leaves, the status of a guess, tags, and sound traces.
use Rattle.std.specs.Prelude.{◌≡◌, ℕ, ◌<◌, Bool, false, List, [], ◌∷◌, ◌++◌, Option, Some, None, slice_get}
use Rattle.std.specs.List.{filter, list_any, fold, Contains}
use Rattle.std.specs.FinMap.{FinMap}
use Rattle.sk_record.specs.Effects.{MarkedEffect, Dep, is_in, is_marked, dirt, writes}
use Rattle.sk_record.specs.Run.{System, IsLegal, effects}
use Rattle.sk_record.specs.Strike.{strike}
use Rattle.sk_record.specs.Notes.{has, without}
pub use Rattle.sk_record.specs.declared.status.Status.{Status}
pub use Rattle.sk_record.specs.declared.status.Status.TheVariants.{Undecided, Committed, Failed, Struck}

-- what happens: the step of an entry, which is a guess where the entry is marked; the commit of a guess; its failure
pub data Event (N : Type 0) : Type 0 where
  Taken : (entry : N) → Event N
  Commit : (guess : ℕ) → Event N
  Fail : (guess : ℕ) → Event N

module _ {E V W F N : Type 0} (K : System E V W F N) where
  -- the record has the entry marked g
  abbrev pub HasEntry : List N → ℕ → Type 0
  HasEntry ns g = (n : N) × Contains ns n × (K.mark n ≡ Some g)

  -- the guess g was made
  abbrev pub IsDrawn : List (Event N) → ℕ → Type 0
  IsDrawn es g = (n : N) × Contains es (Taken n) × (K.mark n ≡ Some g)

module _ {E V W F N : Type 0} (K : System E V W F N) (start : FinMap K.order V) where
  -- the record after one more event: an entry is appended, a commit changes nothing, a failure strikes
  abbrev pub record_after : List N → Event N → List N
  record_after ns (Taken n) = ns ++ n ∷ []
  record_after ns (Commit g) = ns
  record_after ns (Fail g) = strike K start ns g

  -- the record of a trace
  abbrev pub record_of : List (Event N) → List N
  record_of es = fold record_after [] es

  -- the effects of the trace's record
  abbrev pub effects_of : List (Event N) → List (MarkedEffect E V W)
  effects_of es = effects K start (record_of es)

  -- a guess is committed or failed where the trace has its decision; where it has none, it is undecided while the record has its entry, and struck from then on
  abbrev pub StatusIs : List (Event N) → ℕ → Status → Type 0
  StatusIs es g Undecided = (¬ (Contains es (Commit g))) × (¬ (Contains es (Fail g))) × HasEntry K (record_of es) g
  StatusIs es g Committed = Contains es (Commit g)
  StatusIs es g Failed = Contains es (Fail g)
  StatusIs es g Struck = IsDrawn K es g × (¬ (Contains es (Commit g))) × (¬ (Contains es (Fail g))) × (¬ (HasEntry K (record_of es) g))

  -- the tags of a position: the undecided guesses that it depends on
  abbrev pub IsTagAt : List (Event N) → ℕ → ℕ → Type 0
  IsTagAt es i g = StatusIs es g Undecided × Dep (effects_of es) g i

  -- the tags of an entity: the undecided guesses of which some dependent position writes it
  abbrev pub IsTagOf : List (Event N) → E → ℕ → Type 0
  IsTagOf es e g = StatusIs es g Undecided × ((i : ℕ) × (f : MarkedEffect E V W) × (slice_get (effects_of es) i ≡ Some f) × Dep (effects_of es) g i × Contains (writes f) e)

  -- an event may come next: the number of a guess is above each one that was drawn before, and what is decided is undecided
  abbrev pub IsAllowed : List (Event N) → Event N → Type 0
  IsAllowed es (Taken n) = (g h : ℕ) → K.mark n ≡ Some g → IsDrawn K es h → h < g
  IsAllowed es (Commit g) = StatusIs es g Undecided
  IsAllowed es (Fail g) = StatusIs es g Undecided

  -- a trace is sound: every prefix has a legal record, and may be followed by the event after it
  pub record IsSound (es : List (Event N)) : Type 0 where
    pub legal : (before later : List (Event N)) → es ≡ before ++ later → IsLegal K start (record_of before)
    pub allowed : (before later : List (Event N)) (e : Event N) → es ≡ before ++ e ∷ later → IsAllowed before e

-- ---- the record of a trace, as it is computed from left to right

-- the guess that a mark names
abbrev pub marks : Option ℕ → List ℕ
marks None = []
marks (Some g) = g ∷ []

-- whether a step of the effects is marked h
abbrev pub still_marked : {E V W : Type 0} → List (MarkedEffect E V W) → ℕ → Bool
still_marked ts h = list_any (λ f. is_marked f.mark h) ts

-- the entries of a trace's record, and the guesses that are undecided after it
pub record Record (N : Type 0) : Type 0 where
  pub entries : List N
  pub undecided : List ℕ

abbrev pub no_record : {N : Type 0} → Record N
no_record = record { entries = []; undecided = [] }

module _ {E V W F N : Type 0} (K : System E V W F N) (start : FinMap K.order V) where
  -- the record with its undecided guesses after one more event
  abbrev pub recorded : Record N → Event N → Record N
  recorded r (Taken n) = record { entries = r.entries ++ n ∷ []; undecided = r.undecided ++ marks (K.mark n) }
  recorded r (Commit g) = record { entries = r.entries; undecided = without g r.undecided }
  recorded r (Fail g) =
      record { entries = strike K start r.entries g; undecided = filter (still_marked (effects K start (strike K start r.entries g))) r.undecided }

  -- the record with its undecided guesses after these events
  abbrev pub all_recorded : Record N → List (Event N) → Record N
  all_recorded r es = fold recorded r es

  -- the undecided guesses of a trace
  abbrev pub undecided_of : List (Event N) → List ℕ
  undecided_of es = (all_recorded no_record es).undecided

  -- the number of a guess is none of those that are undecided or in the record
  abbrev pub IsFresh : Record N → Option ℕ → Type 0
  IsFresh r None = Unit {0}
  IsFresh r (Some g) = (has g r.undecided ≡ false) × (still_marked (effects K start r.entries) g ≡ false)

  -- the tags of an entity
  abbrev pub deps : Record N → E → List ℕ
  deps r e = filter (λ g. is_in K.order (dirt K.order g [] (effects K start r.entries)) e) r.undecided
