-- What calls do: what they answer, and what they make of the story, whichever is told before.
use Rattle.std.specs.Prelude.{◌≡◌, ℕ, List, Option, Some, None, Result, Ok, Err}
use Rattle.sk_speculator.specs.Calls.{next_of}
use Rattle.real_epochs.specs.declared.back.Back.{Back}
use Rattle.real_epochs.specs.declared.event.Event.{Event}
use Rattle.real_epochs.specs.declared.refused.Refused.{Refused}
use Rattle.real_epochs.specs.Answers.{oldest_checkpoint, GoesBack, IsNext}
use Rattle.real_epochs.specs.Refusals.{misfit, RefusesBegin, RefusesEvent}
use Rattle.real_epochs.specs.Story.{said_on, Accepts, Begins, Happens, Refuses, Shows, Story}
use Rattle.real_epochs.specs.Tells.{EpochsView, Goes, Stays, Tells}

-- an epoch begins, of the next number; or why none does, and nothing has changed
abbrev pub Began : ℕ → Result ℕ Refused → EpochsView → EpochsView → Type 0
Began checkpoint (Ok number) a b = (number ≡ next_of a.parts.guesses) × Goes (Begins number checkpoint) a b
Began checkpoint (Err why) a b = RefusesBegin a why × Stays a b

-- something happens, which fits; or why it is refused, and nothing has changed
abbrev pub Happened : Event → Result (Unit {0}) Refused → EpochsView → EpochsView → Type 0
Happened event (Ok done) a b = ((s : Story) → Tells s a → misfit s event ≡ None) × Goes (Happens event) a b
Happened event (Err why) a b = ((s : Story) → Tells s a → RefusesEvent s event why) × Stays a b

-- the oldest epoch is accepted, and its checkpoint is told
abbrev pub Accepted : Option ℕ → EpochsView → EpochsView → Type 0
Accepted told a b = ((s : Story) → Tells s a → told ≡ oldest_checkpoint s.waiting) × Goes Accepts a b

-- the oldest epoch is refused, and all others with it; told is where all goes back to
abbrev pub TakenBack : Option Back → EpochsView → EpochsView → Type 0
TakenBack told a b = ((s : Story) → Tells s a → GoesBack s.waiting told) × Goes Refuses a b

-- the next output of a stream is shown; or none, where all that counts was shown
abbrev pub Shown : ℕ → Option ℕ → EpochsView → EpochsView → Type 0
Shown stream (Some output) a b = Goes (Shows stream output) a b × ((s : Story) → Tells s a → IsNext s stream output)
Shown stream None a b = (b ≡ a) × ((s : Story) → Tells s a → said_on stream s.accepted ≡ s.shown stream)
