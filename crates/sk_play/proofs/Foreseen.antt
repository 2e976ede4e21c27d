-- What a call appends was foreseen.
use Rattle.sk_play.proofs.Names.{ℕ, Bool, List, Option, Some, None, refl, has, Input, Refusal, Event, KernelView}
use Rattle.sk_play.proofs.Names.{next_guess, appended, IsForeseen, unchanged_foreseen, appended_foreseen, Call}
use Rattle.sk_play.proofs.Names.{WorldEvent, WorldView, upcoming_in, event_foreseen, CallAnswer, WorldTold}
use Rattle.sk_play.proofs.Names.{AnswerMatches, StepTold, GuessTold, DecisionTold, upcoming, Happens}
use Rattle.sk_trace.specs.declared.event.Event.TheVariants as events
use Rattle.sk_scenario.specs.declared.call.Call.TheVariants as calls
use Rattle.sk_play.specs.declared.answer.CallAnswer.TheVariants as answers

step_foreseen : (a : CallAnswer) (refused : Option Refusal) (pid : ℕ) (input : Input) (old new : KernelView) → StepTold a refused (events.Step pid input) old new
    → IsForeseen (Some (pid, input)) (appended old new)
step_foreseen answers.Stepped refused pid input old new h = appended_foreseen (Some (pid, input)) old new (events.Step pid input) h.1 refl
step_foreseen (answers.Refused why) refused pid input old new h = unchanged_foreseen (Some (pid, input)) old new h.1
step_foreseen (answers.Guessed id) refused pid input old new h = absurd h
step_foreseen answers.Done refused pid input old new h = absurd h
step_foreseen answers.Gone refused pid input old new h = absurd h
step_foreseen answers.NoToken refused pid input old new h = absurd h

guess_foreseen : (a : CallAnswer) (refused : Option Refusal) (g pid : ℕ) (input : Input) (old new : KernelView) → GuessTold a refused (events.Guess g pid input) old new
    → IsForeseen (Some (pid, input)) (appended old new)
guess_foreseen (answers.Guessed id) refused g pid input old new h = appended_foreseen (Some (pid, input)) old new (events.Guess g pid input) h.2 refl
guess_foreseen (answers.Refused why) refused g pid input old new h = unchanged_foreseen (Some (pid, input)) old new h.1
guess_foreseen answers.Stepped refused g pid input old new h = absurd h
guess_foreseen answers.Done refused g pid input old new h = absurd h
guess_foreseen answers.Gone refused g pid input old new h = absurd h
guess_foreseen answers.NoToken refused g pid input old new h = absurd h

decision_foreseen : (a : CallAnswer) (e : Event) (held : Bool) (id : ℕ) (old new : KernelView) → IsForeseen None (Some e) → DecisionTold a e held id old new → IsForeseen None (appended old new)
decision_foreseen answers.Done e held id old new foreseen h = appended_foreseen None old new e h.2 foreseen
decision_foreseen answers.Gone e held id old new foreseen h = unchanged_foreseen None old new h.2
decision_foreseen answers.NoToken e held id old new foreseen h = unchanged_foreseen None old new h.1
decision_foreseen answers.Stepped e held id old new foreseen h = absurd h
decision_foreseen (answers.Guessed other) e held id old new foreseen h = absurd h
decision_foreseen (answers.Refused why) e held id old new foreseen h = absurd h

pub call_foreseen : (a : CallAnswer) (s : Call) (held : List ℕ) (old new : KernelView) → AnswerMatches a s held old new → IsForeseen (upcoming s) (appended old new)
call_foreseen a (calls.Step pid input) held old new h = step_foreseen a _ pid input old new h
call_foreseen a (calls.Guess pid input) held old new h = guess_foreseen a _ (next_guess old) pid input old new h
call_foreseen a (calls.Commit id) held old new h = decision_foreseen a (events.Commit id) (has id held) id old new tt h
call_foreseen a (calls.Fail id) held old new h = decision_foreseen a (events.Fail id) (has id held) id old new tt h

-- and so was what an event of a world appends
pub happening_foreseen : (told : Option WorldTold) (w : WorldView) (e : WorldEvent) (new : WorldView) → Happens told w e new → IsForeseen (upcoming_in w e) (appended w.desk.kernel new.desk.kernel)
happening_foreseen told w e new h = event_foreseen h.0 w e new h.2
