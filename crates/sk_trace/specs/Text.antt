-- How events and traces are printed.
use Rattle.std.specs.Prelude.{ℕ, List, [], ◌∷◌, ◌++◌, codes, decimal, flat_map}
use Rattle.sk_words.specs.Spelling.{pid_word, spaced}
use Rattle.sk_script.specs.StepInput.{input_words}
use Rattle.sk_trace.specs.declared.event.Event.{Event}

abbrev pub event_words : Event → List (List ℕ)
event_words (Event.Step pid input) = codes "step" ∷ pid_word pid ∷ input_words input
event_words (Event.Guess id pid input) = codes "guess" ∷ decimal id ∷ pid_word pid ∷ input_words input
event_words (Event.Commit id) = codes "commit" ∷ decimal id ∷ []
event_words (Event.Fail id) = codes "fail" ∷ decimal id ∷ []

-- the words of an event with single spaces between them
abbrev pub event_text : Event → List ℕ
event_text e = spaced (event_words e)

-- a line for each event
abbrev pub trace_text : List Event → List ℕ
trace_text es = flat_map (λ e. event_text e ++ 10 ∷ []) es
