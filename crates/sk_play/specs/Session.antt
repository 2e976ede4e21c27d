-- What a run answers to the calls of a scenario, and the guesses whose tokens it holds.
use Rattle.std.specs.Prelude.{◌≡◌, Option, Some, None, ℕ, Bool, true, false, List, [], ◌∷◌, ◌++◌}
use Rattle.sk_play.specs.Base.{has, Undecided, Struck, Refusal, EntryView, Event, Input, Call, KernelView, HasStatus}
use Rattle.sk_play.specs.Base.{next_guess, with_event, step_refused, guess_refused, Outcome, but, CallAnswer}

-- ---- what the run answers, in terms of the kernel's calls

-- a step: it is taken, or the first cause that stands against it is told and nothing changes
abbrev pub StepTold : CallAnswer → Option Refusal → Event → KernelView → KernelView → Type 0
StepTold CallAnswer.Stepped refused event old new = (refused ≡ None) × (new ≡ with_event old event)
StepTold (CallAnswer.Refused why) refused event old new = (refused ≡ Some why) × (new ≡ old)
StepTold _ refused event old new = ⊥

-- a guess, whose number is the next one: it is made, or the first cause that stands against it is told and nothing changes
abbrev pub GuessTold : CallAnswer → Option Refusal → Event → KernelView → KernelView → Type 0
GuessTold (CallAnswer.Guessed id) refused event old new = (refused ≡ None) × (id ≡ next_guess old) × (new ≡ with_event old event)
GuessTold (CallAnswer.Refused why) refused event old new = (refused ≡ Some why) × (new ≡ old)
GuessTold _ refused event old new = ⊥

-- the guesses that are held, and one that was drawn
abbrev pub with_guess : CallAnswer → List ℕ → List ℕ
with_guess (CallAnswer.Guessed id) held = held ++ id ∷ []
with_guess _ held = held

-- what a decision is told as; without a token nothing comes of it
abbrev pub decision_told : Option Outcome → CallAnswer
decision_told (Some Outcome.Done) = CallAnswer.Done
decision_told (Some Outcome.Gone) = CallAnswer.Gone
decision_told None = CallAnswer.NoToken

-- a decision: the guess of a held token is decided, or was struck before; without a token nothing changes
abbrev pub DecisionTold : CallAnswer → Event → Bool → ℕ → KernelView → KernelView → Type 0
DecisionTold CallAnswer.Done event held id old new = (held ≡ true) × HasStatus old id Undecided × (new ≡ with_event old event)
DecisionTold CallAnswer.Gone event held id old new = (held ≡ true) × HasStatus old id Struck × (new ≡ old)
DecisionTold CallAnswer.NoToken event held id old new = (held ≡ false) × (new ≡ old)
DecisionTold _ event held id old new = ⊥

abbrev pub entry : ℕ → Input → Option ℕ → EntryView
entry pid input guess = record { pid = pid; input = input; guess = guess }

-- what is answered to one step of a scenario, where these guesses are held, and what it leaves
abbrev pub AnswerMatches : CallAnswer → Call → List ℕ → KernelView → KernelView → Type 0
AnswerMatches answer (Call.Step pid input) held old new = StepTold answer (step_refused old (entry pid input None)) (Event.Step pid input) old new
AnswerMatches answer (Call.Guess pid input) held old new =
    GuessTold answer (guess_refused old (entry pid input (Some (next_guess old)))) (Event.Guess (next_guess old) pid input) old new
AnswerMatches answer (Call.Commit id) held old new = DecisionTold answer (Event.Commit id) (has id held) id old new
AnswerMatches answer (Call.Fail id) held old new = DecisionTold answer (Event.Fail id) (has id held) id old new

-- the call can want memory: nothing else stands against it, and it is no decision
abbrev pub CanWantMemory : Call → KernelView → Type 0
CanWantMemory (Call.Step pid input) kernel = step_refused kernel (entry pid input None) ≡ None
CanWantMemory (Call.Guess pid input) kernel = guess_refused kernel (entry pid input (Some (next_guess kernel))) ≡ None
CanWantMemory _ kernel = ⊥

-- the guesses whose tokens are held after a step of a scenario: a guess gives one token, and a decision spends one
abbrev pub held_after : CallAnswer → Call → List ℕ → List ℕ
held_after answer (Call.Step pid input) held = held
held_after answer (Call.Guess pid input) held = with_guess answer held
held_after answer (Call.Commit id) held = but id held
held_after answer (Call.Fail id) held = but id held

-- the process and the input of the step that a call takes, if it takes one
abbrev pub upcoming : Call → Option (ℕ × Input)
upcoming (Call.Step pid input) = Some (pid, input)
upcoming (Call.Guess pid input) = Some (pid, input)
upcoming _ = None
