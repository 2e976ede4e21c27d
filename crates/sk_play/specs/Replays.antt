-- A trace that is replayed: each event is the call of a session, which is answered as the event tells.
use Rattle.std.specs.Prelude.{◌≡◌, ℕ, ◌+◌, List, ◌∷◌, ◌++◌, map, length, Result, Ok, Err, ⊤}
use Rattle.sk_play.specs.Base.{Event, Call, KernelView, CallAnswer, Unreplayed}
use Rattle.sk_play.specs.Session.{AnswerMatches}
use Rattle.sk_play.specs.Plays.{Plays}

abbrev pub call_of : Event → Call
call_of (Event.Step pid input) = Call.Step pid input
call_of (Event.Guess id pid input) = Call.Guess pid input
call_of (Event.Commit id) = Call.Commit id
call_of (Event.Fail id) = Call.Fail id

-- the answer that the event tells
abbrev pub told_by : Event → CallAnswer
told_by (Event.Step pid input) = CallAnswer.Stepped
told_by (Event.Guess id pid input) = CallAnswer.Guessed id
told_by _ = CallAnswer.Done

-- the events happen in turn, from these held guesses and this kernel on, which leaves those guesses held and that kernel
abbrev pub Replays : List Event → List ℕ → KernelView → List ℕ → KernelView → Type 0
Replays es held kernel left last = Plays (map call_of es) (map told_by es) held kernel left last

-- the entry at this place, from 1, is the first that does not: its call is answered otherwise
pub record StopsAt (es : List Event) (held : List ℕ) (kernel : KernelView) (at : ℕ) : Type 0 where
  pub before : List Event
  pub event : Event
  pub later : List Event
  pub parts : es ≡ before ++ event ∷ later
  pub place : at ≡ length before + 1
  -- the entries before this one happen again
  pub left : List ℕ
  pub here : KernelView
  pub replays : Replays before held kernel left here
  -- then its own call is answered otherwise
  pub answer : CallAnswer
  pub next : KernelView
  pub answered : AnswerMatches answer (call_of event) left here next
  pub other : ¬ (answer ≡ told_by event)

-- the kernel with a trace
abbrev pub replayed : KernelView → List Event → KernelView
replayed k es = record k { trace = k.trace ++ es }

-- all events happen, or the first that does not is told, or memory ran out
abbrev pub ReplaysSo : Result (Unit {0}) Unreplayed → List Event → List ℕ → KernelView → List ℕ → KernelView → Type 0
ReplaysSo (Ok u) es held kernel left last = Replays es held kernel left last × (last ≡ replayed kernel es)
ReplaysSo (Err (Unreplayed.Entry at)) es held kernel left last = StopsAt es held kernel at
ReplaysSo (Err Unreplayed.Memory) es held kernel left last = ⊤
