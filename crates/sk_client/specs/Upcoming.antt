-- The step that an event of a world takes, where it takes one.
use Rattle.std.specs.Prelude.{ℕ, List, [], ◌∷◌, Option, Some, None, Result, Ok, option_map}
use Rattle.sk_client.specs.Base.{Input, Refusal, Reply, WorldEvent}
use Rattle.sk_client.specs.Pending.{PendingRequest}
use Rattle.sk_client.specs.Desk.{Rule, rule, input_of}
use Rattle.sk_client.specs.WorldView.{WorldView}

-- the process and the input of the step that a rule takes; a question takes none
abbrev pub turn_step : ℕ → Result Rule Refusal → Option (ℕ × Input)
turn_step pid (Ok (Rule.Steps input)) = Some (pid, input)
turn_step pid (Ok (Rule.Guesses ask)) = Some (pid, Input.Good)
turn_step pid result = None

-- the process of the oldest of these requests, and what a step of it is given by the reply
abbrev pub reply_step : Reply → List PendingRequest → Option (ℕ × Input)
reply_step r [] = None
reply_step r (q ∷ qs) = option_map (λ input. (q.process, input)) (input_of r.answer)

abbrev pub first_reply_step : List Reply → List PendingRequest → Option (ℕ × Input)
first_reply_step [] qs = None
first_reply_step (r ∷ rs) qs = reply_step r qs

-- a step that the event takes is of this process, with this input
abbrev pub upcoming : WorldView → WorldEvent → Option (ℕ × Input)
upcoming w (WorldEvent.Turn pid) = turn_step pid (rule w.desk pid)
upcoming w WorldEvent.Reply = first_reply_step w.replies w.desk.taken
upcoming w e = None
