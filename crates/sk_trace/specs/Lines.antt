-- What the lines of a trace say.
use Rattle.std.specs.Prelude.{◌≡◌, ℕ, List, [], ◌∷◌, Result, Ok, Err, codes}
use Rattle.std.specs.Str.Lines.{lines}
use Rattle.sk_words.specs.declared.fault.FaultKind.{FaultKind}
use Rattle.sk_words.specs.declared.fault.Fault.{Fault}
use Rattle.sk_words.specs.Faults.{◌>>=◌}
use Rattle.sk_words.specs.Operands.{closed, next_word, one_of, pid, positive}
use Rattle.sk_words.specs.Reading.{read_from, Tells, TellsKind}
use Rattle.sk_words.specs.Tables.{Rule, rule_in, unknown}
use Rattle.sk_words.specs.Items.{with_item}
use Rattle.sk_script.specs.declared.instruction.Input.{Input}
use Rattle.sk_script.specs.StepInput.{input}
use Rattle.sk_trace.specs.Kept.{HasContent}
use Rattle.sk_trace.specs.declared.event.Event.{Event}
use Rattle.sk_trace.specs.Trace.{TraceView}

-- a process and an input, whose count of words is told before a malformed process
unfoldable pub step : Rule (ℕ × Input)
step ws = do
  cs ← closed ws
  p ← next_word cs
  i ← input p.1
  who ← pid p.0
  Ok (who, i)

-- what is read is what words say, or the kind of their fault is told, and want of memory only of words without one
abbrev pub IsRead : {S : Type 0} → Result S FaultKind → Result S FaultKind → Type 0
IsRead (Ok s) said = said ≡ Ok s
IsRead (Err e) said = TellsKind e said

-- where the words are right and nothing is read, the input has a content, which alone takes memory
abbrev pub WantsContent : FaultKind → Result (ℕ × Input) FaultKind → Type 0
WantsContent e (Ok s) = HasContent s.1
WantsContent e (Err k) = Unit {0}

-- the number of a guess before them, which is looked at last
unfoldable pub numbered_step : Rule (ℕ × ℕ × Input)
numbered_step ws = do
  cs ← closed ws
  g ← next_word cs
  s ← step g.1
  id ← positive g.0
  Ok (id, s.0, s.1)

abbrev pub event_rules : List (List ℕ × Rule Event)
event_rules =
    (codes "step", λ ws. step ws >>= λ x. Ok (Event.Step x.0 x.1)) ∷
    (codes "guess", λ ws. numbered_step ws >>= λ x. Ok (Event.Guess x.0 x.1 x.2)) ∷
    (codes "commit", λ ws. one_of positive ws >>= λ x. Ok (Event.Commit x)) ∷
    (codes "fail", λ ws. one_of positive ws >>= λ x. Ok (Event.Fail x)) ∷
    []

-- what a line says whose first word this is
unfoldable pub event : List ℕ → Rule Event
event word ws = rule_in event_rules unknown word ws

-- the events so far, with that of a line
abbrev pub event_line : List Event → List ℕ → Result (List Event) FaultKind
event_line = with_item event

-- the events of lines, the first of which has this number
abbrev pub trace_from : ℕ → List (List ℕ) → Result (List Event) Fault
trace_from first ls = read_from event_line [] first ls

-- the events of a text
abbrev pub trace_of : List ℕ → Result (List Event) Fault
trace_of text = trace_from 1 (lines text)

-- a trace has the events that are said, or the fault is told of them
abbrev pub Says : Result TraceView Fault → Result (List Event) Fault → ℕ → ℕ → Type 0
Says (Ok t) said first last = said ≡ Ok t.events
Says (Err f) said first last = Tells first last f said
