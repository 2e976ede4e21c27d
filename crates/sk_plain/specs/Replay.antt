-- What is left of a whole trace, and the first fault of one that is not sound.
use Rattle.std.specs.Prelude.{◌≡◌, ℕ, ◌+◌, ◌≤◌, nat_lt, Bool, true, false, List, [], ◌∷◌, ◌++◌, length, Option, Some, None, Result, Ok, Err, IsOk, IsErr}
use Rattle.sk_plain.specs.Base.{option_or, run, outcome, after, has, Taken, IsDrawn, IsAllowed, IsSound, all_recorded}
use Rattle.sk_plain.specs.Base.{marks, no_record, record_of, State, EntryView, Event, Happens}
use Rattle.sk_plain.specs.Act.{Scripts, plain}
pub use Rattle.sk_plain.specs.Standing.{image, is_made}
use Rattle.sk_plain.specs.Standing.{seen, Stands, GoesOn}
use Rattle.sk_plain.specs.declared.replay.Replay.{Replay}
use Rattle.sk_plain.specs.declared.replay.EventFault.{EventFault}
use Rattle.sk_plain.specs.declared.replay.TraceFault.{TraceFault}

module _ (scripts : Scripts) (start : State) where
  -- the plain kernel refuses the event's step after these events
  abbrev pub IsRefused : List (Happens EntryView) → Happens EntryView → Type 0
  IsRefused before (Taken n) =
      IsErr (outcome (plain scripts) (run (plain scripts) start (record_of (plain scripts) start before)) n)
  IsRefused before _ = ⊥

  -- the step is not refused, but the event names a guess that is not undecided after these events, or a new one whose number is not above all before
  abbrev pub IsUnknown : List (Happens EntryView) → Happens EntryView → Type 0
  IsUnknown before e = (¬ (IsRefused before e)) × (¬ (IsAllowed (plain scripts) start before e))

  -- an event without a fault: its step is not refused, and each guess that it names may stand there
  abbrev pub IsTaken : List (Happens EntryView) → Happens EntryView → Type 0
  IsTaken before e = (¬ (IsRefused before e)) × IsAllowed (plain scripts) start before e

  -- the events before the one at this place, from 1, are sound, and this holds of it
  pub record IsFirstFault (es : List (Happens EntryView)) (at : ℕ) (HasFault : List (Happens EntryView) → Happens EntryView → Type 0) : Type 0 where
    pub before : List (Happens EntryView)
    pub event : Happens EntryView
    pub later : List (Happens EntryView)
    pub parts : es ≡ before ++ event ∷ later
    pub place : at ≡ length before + 1
    pub sound : IsSound (plain scripts) start before
    pub fault : HasFault before event

  -- what a fault among the events tells: want of memory is told at one that has no fault, nor one before it
  abbrev pub StopsIn : List (Happens EntryView) → TraceFault → Type 0
  StopsIn es (TraceFault.Refused at) = IsFirstFault es at IsRefused
  StopsIn es (TraceFault.UnknownGuess at) = IsFirstFault es at IsUnknown
  StopsIn es TraceFault.NoStart = ⊥
  StopsIn es TraceFault.Memory = (at : ℕ) × IsFirstFault es at IsTaken

  -- what a fault tells of a start and these events: there was no memory for the start, or one among them
  abbrev pub FaultIn : List (Happens EntryView) → TraceFault → Type 0
  FaultIn es TraceFault.NoStart = Unit {0}
  FaultIn es fault = StopsIn es fault

-- ---- a replay, event by event

-- the number of a new guess is above the greatest before
abbrev pub is_above : Option ℕ → Option ℕ → Bool
is_above (Some g) (Some h) = nat_lt g h
is_above (Some g) None = true
is_above None h = true

-- the greatest number of a guess that was made, where one was
abbrev pub IsGreatest : Scripts → List (Happens EntryView) → Option ℕ → Type 0
IsGreatest scripts es None = (h : ℕ) → ¬ (IsDrawn (plain scripts) es h)
IsGreatest scripts es (Some g) = IsDrawn (plain scripts) es g × ((h : ℕ) → IsDrawn (plain scripts) es h → h ≤ g)

-- where the replay of a sound trace stands, from this start
pub record IsReplay (scripts : Scripts) (start : State) (es : List (Happens EntryView)) (r : Replay) : Type 0 where
  pub sound : IsSound (plain scripts) start es
  pub record_is : seen r.standing ≡ all_recorded (plain scripts) start no_record es
  pub stands : Stands scripts start r.standing
  pub now : r.now ≡ run (plain scripts) start (seen r.standing).entries
  pub greatest : IsGreatest scripts es r.greatest

-- an entry was taken
pub record HasTaken (scripts : Scripts) (old : Replay) (n : EntryView) (new : Replay) : Type 0 where
  pub accepted : IsOk (outcome (plain scripts) old.now n)
  pub above : is_above old.greatest n.guess ≡ true
  pub now : new.now ≡ after (plain scripts) (outcome (plain scripts) old.now n) old.now
  pub settled : new.standing.settled.items ≡ old.standing.settled.items
  pub base : new.standing.after ≡ old.standing.after
  pub behind : new.standing.behind.items ≡ old.standing.behind.items ++ n ∷ []
  pub undecided : new.standing.undecided.items ≡ old.standing.undecided.items ++ marks n.guess
  pub greatest : new.greatest ≡ option_or n.guess old.greatest

-- or why not; memory is wanted only where nothing else is wrong
abbrev pub StepFault : Scripts → Replay → EntryView → EventFault → Type 0
StepFault scripts old n EventFault.Refused = IsErr (outcome (plain scripts) old.now n)
StepFault scripts old n EventFault.Unknown = IsOk (outcome (plain scripts) old.now n) × (is_above old.greatest n.guess ≡ false)
StepFault scripts old n EventFault.Memory = IsOk (outcome (plain scripts) old.now n) × (is_above old.greatest n.guess ≡ true)

-- a guess was decided by an event, which was undecided, and entities have this then
pub record HasDecided (scripts : Scripts) (old : Replay) (g : ℕ) (event : Event) (s : State) (new : Replay) : Type 0 where
  pub known : has g old.standing.undecided.items ≡ true
  pub goes : GoesOn scripts event old.standing new.standing
  pub now : new.now ≡ s
  pub greatest : new.greatest ≡ old.greatest

-- why an event decides no guess
abbrev pub DecisionFault : Replay → ℕ → EventFault → Type 0
DecisionFault old g EventFault.Refused = ⊥
DecisionFault old g EventFault.Unknown = has g old.standing.undecided.items ≡ false
DecisionFault old g EventFault.Memory = has g old.standing.undecided.items ≡ true

-- the replay goes on with an event, or tells its fault
abbrev pub Goes : Scripts → State → List (Happens EntryView) → Happens EntryView → Replay → Result (Unit {0}) EventFault → Type 0
Goes scripts start es e new (Ok u) = IsReplay scripts start (es ++ e ∷ []) new
Goes scripts start es e new (Err EventFault.Refused) = IsRefused scripts start es e
Goes scripts start es e new (Err EventFault.Unknown) = IsUnknown scripts start es e
Goes scripts start es e new (Err EventFault.Memory) = IsTaken scripts start es e

-- after all these events, or the first fault among them
abbrev pub Replays : Scripts → State → List (Happens EntryView) → Replay → Result (Unit {0}) TraceFault → Type 0
Replays scripts start es new (Ok u) = IsReplay scripts start es new
Replays scripts start es new (Err fault) = StopsIn scripts start es fault
