-- What calls do with epochs, and what they are told.
use Rattle.std.specs.Prelude.{◌≡◌, ◌==◌, ℕ, Bool, false, List, [], length, Option, Some, None, Result, if◌then◌else◌}
use Rattle.std.specs.List.{list_any, slice_get}
use Rattle.real_epochs.specs.declared.back.Back.{Back}
use Rattle.real_epochs.specs.declared.event.Event.{Event}
use Rattle.real_epochs.specs.declared.refused.Refused.{Refused}
use Rattle.real_epochs.specs.Answers.{are_none, is_needed, known_of}
use Rattle.real_epochs.specs.Calls.{Accepted, Began, Happened, Shown, TakenBack}
use Rattle.real_epochs.specs.Story.{all_in, changed_in, no_story, Story}
use Rattle.real_epochs.specs.Tells.{Tells}
use Rattle.hidewillow_epochs.specs.declared.session.Session.{Session}
use Rattle.hidewillow_epochs.specs.declared.told.Told.{Told}
use Rattle.hidewillow_epochs.specs.declared.told.TheConstants.{CLOSED, DONE, HELD, MEMORY, NO, REFUSED, SHOWN, YES}
use Rattle.hidewillow_epochs.specs.Told.{just, number_told, place_told, step_told}

-- ---- calls of epochs

-- nothing has happened
abbrev pub IsNew : Session → Type 0
IsNew s = Tells no_story s.epochs × (s.undone.items ≡ [])

-- an epoch begins at a checkpoint, or it is told why not
abbrev pub BeginsTold : ℕ → Told → Session → Session → Type 0
BeginsTold checkpoint told old new =
    (did : Result ℕ Refused) × (told ≡ number_told did) × Began checkpoint did old.epochs new.epochs × (new.undone ≡ old.undone)

-- something happens, or it is told why not
abbrev pub HappensTold : Event → Told → Session → Session → Type 0
HappensTold event told old new =
    (did : Result (Unit {0}) Refused) × (told ≡ step_told did) × Happened event did old.epochs new.epochs × (new.undone ≡ old.undone)

-- the oldest epoch is accepted, if one waits
abbrev pub AcceptsTold : Told → Session → Session → Type 0
AcceptsTold told old new = (did : Option ℕ) × (told ≡ place_told DONE did) × Accepted did old.epochs new.epochs × (new.undone ≡ old.undone)

-- the checkpoint that all goes back to is told, with how many names are undone, which are kept to be asked for
abbrev pub IsTold : Told → Option Back → Session → Session → Type 0
IsTold told None old new = (told ≡ place_told DONE None) × (new.undone ≡ old.undone)
IsTold told (Some back) old new = (told ≡ record (just DONE back.checkpoint) { names = length back.names.items }) × (new.undone ≡ back.names)

-- the oldest epoch is refused, and all others with it, if one waits
abbrev pub RefusesTold : Told → Session → Session → Type 0
RefusesTold told old new = (did : Option Back) × IsTold told did old new × TakenBack did old.epochs new.epochs

-- the next output of a stream is shown, if there is one
abbrev pub ShowsTold : ℕ → Told → Session → Session → Type 0
ShowsTold stream told old new = (did : Option ℕ) × (told ≡ place_told SHOWN did) × Shown stream did old.epochs new.epochs × (new.undone ≡ old.undone)

-- ---- what is asked

-- the name at a place among those that are undone is told
abbrev pub AsksUndone : ℕ → Told → Session → Type 0
AsksUndone place told s = told ≡ place_told SHOWN (slice_get s.undone.items place)

-- the version that is known of a name is told
abbrev pub AsksVersion : ℕ → Told → Session → Type 0
AsksVersion name told s = (story : Story) → Tells story s.epochs → told ≡ place_told SHOWN (known_of story name)

-- what a question is told
abbrev pub asked : Bool → Told
asked is_so = if is_so then just YES 0 else just NO 0

-- it is told whether an epoch that waits has changed a name
abbrev pub AsksChanged : ℕ → Told → Session → Type 0
AsksChanged name told s = (story : Story) → Tells story s.epochs → (name == 0) ≡ false → told ≡ asked (changed_in (all_in story.waiting) name)

-- it is told whether an epoch that waits goes back to a checkpoint
abbrev pub AsksNeeds : ℕ → Told → Session → Type 0
AsksNeeds checkpoint told s = (story : Story) → Tells story s.epochs → told ≡ asked (is_needed checkpoint story.waiting)

-- it is told whether none waits
abbrev pub AsksAct : Told → Session → Type 0
AsksAct told s = (story : Story) → Tells story s.epochs → told ≡ asked (are_none story.waiting)

-- how many wait is told
abbrev pub CountsWaiting : Told → Session → Type 0
CountsWaiting told s = (story : Story) → Tells story s.epochs → told ≡ just SHOWN (length story.waiting)

-- ---- of what a handle holds

-- what a handle holds does this; where it holds nothing, that is told
abbrev pub Does : (Told → Session → Session → Type 0) → Told → Option Session → Option Session → Type 0
Does does told (Some old) (Some new) = does told old new
Does does told (Some old) None = ⊥
Does does told None new = (told ≡ just CLOSED 0) × (new ≡ None)

-- this is told of what is held, which has not changed
abbrev pub Asks : (Told → Session → Type 0) → Told → Option Session → Option Session → Type 0
Asks asks told (Some old) new = (new ≡ Some old) × asks told old
Asks asks told None new = (told ≡ just CLOSED 0) × (new ≡ None)

-- where nothing is held, new epochs are held then; or it is told that none could ever wait, or else that there is no memory
abbrev pub Opens : ℕ → Told → Option Session → Option Session → Type 0
Opens limit told (Some old) new = (told ≡ just HELD 0) × (new ≡ Some old)
Opens limit told None (Some new) = (told ≡ just DONE 0) × ((limit == 0) ≡ false) × IsNew new
Opens limit told None None = told ≡ (if limit == 0 then just REFUSED 5 else just MEMORY 0)
