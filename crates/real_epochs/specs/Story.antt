-- What happens under epochs, and what a plain run of it, which knows no epochs, says and knows.
use Rattle.std.specs.Prelude.{ℕ, Bool, true, false, ◌==◌, ◌||◌, List, [], ◌∷◌, ◌++◌, Option, Some, None, if◌then◌else◌}
use Rattle.real_epochs.specs.declared.event.Event.{Event}
use Rattle.real_epochs.specs.declared.event.Event.TheVariants.{Changes, Told, Says}

-- what a plain run says on a stream
abbrev pub said_on : ℕ → List Event → List ℕ
said_on t [] = []
said_on t (Changes name version ∷ es) = said_on t es
said_on t (Told name version ∷ es) = said_on t es
said_on t (Says stream output ∷ es) = if stream == t then output ∷ said_on t es else said_on t es

-- what is known of a name after it, where this was known before
abbrev pub known_after : List Event → ℕ → Option ℕ → Option ℕ
known_after [] n before = before
known_after (Changes name version ∷ es) n before = known_after es n (if n == name then version else before)
known_after (Told name version ∷ es) n before = known_after es n (if n == name then version else before)
known_after (Says stream output ∷ es) n before = known_after es n before

-- whether the processes change what is known of a name
abbrev pub changed_in : List Event → ℕ → Bool
changed_in [] n = false
changed_in (Changes name version ∷ es) n = (n == name) || changed_in es n
changed_in (Told name version ∷ es) n = changed_in es n
changed_in (Says stream output ∷ es) n = changed_in es n

-- what the server told
abbrev pub told_in : List Event → List Event
told_in [] = []
told_in (Changes name version ∷ es) = told_in es
told_in (Told name version ∷ es) = Told name version ∷ told_in es
told_in (Says stream output ∷ es) = told_in es

-- ---- epochs

-- an epoch without its reply: its number, the checkpoint that it goes back to, and what has happened since, until the next one began
pub record Epoch : Type 0 where
  pub number : ℕ
  pub checkpoint : ℕ
  pub events : List Event

-- what counts whatever is replied, in order; the epochs without their replies, oldest first; and what was shown on each stream
pub record Story : Type 0 where
  pub accepted : List Event
  pub waiting : List Epoch
  pub shown : ℕ → List ℕ

-- nothing has happened
abbrev pub no_story : Story
no_story = record { accepted = []; waiting = []; shown = λ t. [] }

-- what happened in these epochs
abbrev pub all_in : List Epoch → List Event
all_in [] = []
all_in (e ∷ es) = e.events ++ all_in es

-- ---- calls

-- what happens belongs to the newest epoch without its reply; where there is none, it counts
abbrev pub in_newest : Event → List Epoch → List Epoch
in_newest event [] = []
in_newest event (e ∷ []) = record e { events = e.events ++ event ∷ [] } ∷ []
in_newest event (e ∷ f ∷ es) = e ∷ in_newest event (f ∷ es)

abbrev pub in_none : Event → List Epoch → List Event
in_none event [] = event ∷ []
in_none event (e ∷ es) = []

-- what happened in the oldest epoch, and the others
abbrev pub in_oldest : List Epoch → List Event
in_oldest [] = []
in_oldest (e ∷ es) = e.events

abbrev pub but_oldest : List Epoch → List Epoch
but_oldest [] = []
but_oldest (e ∷ es) = es

-- an epoch begins at a checkpoint; something happens; the server accepts the oldest epoch, or refuses it; output is shown on a stream
pub data Call : Type 0 where
  Begins : (number : ℕ) → (checkpoint : ℕ) → Call
  Happens : (event : Event) → Call
  Accepts : Call
  Refuses : Call
  Shows : (stream : ℕ) → (output : ℕ) → Call

-- What calls make of a story. With the oldest epoch all others are refused, since they depend on it: of what happened in them there
-- is left just what the server told.
abbrev pub with_call : Call → Story → Story
with_call (Begins number checkpoint) s = record s { waiting = s.waiting ++ (record { number = number; checkpoint = checkpoint; events = [] }) ∷ [] }
with_call (Happens event) s = record s { accepted = s.accepted ++ in_none event s.waiting; waiting = in_newest event s.waiting }
with_call Accepts s = record s { accepted = s.accepted ++ in_oldest s.waiting; waiting = but_oldest s.waiting }
with_call Refuses s = record s { accepted = s.accepted ++ told_in (all_in s.waiting); waiting = [] }
with_call (Shows stream output) s = record s { shown = λ t. if stream == t then s.shown t ++ output ∷ [] else s.shown t }

abbrev pub with_calls : List Call → Story → Story
with_calls [] s = s
with_calls (c ∷ cs) s = with_calls cs (with_call c s)
