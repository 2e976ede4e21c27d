-- A printed event is read again: from what is known of printed words, operand by operand, and then of lines.
use Rattle.sk_trace.proofs.Names.{◌≡◌, ◌<◌, ◌^◌, ℕ, List, [], ◌∷◌, ◌++◌, Result, Ok, Err, refl, sym, ap, ◌∙◌, arith}
use Rattle.sk_trace.proofs.Names.{All, codes, decimal, AllByRecursion, IsPath, IsGuessNumber, ContentView, IsContent}
use Rattle.sk_trace.proofs.Names.{FaultKind, Fault, words, first_of, with_line, literal, natural, positive, pid}
use Rattle.sk_trace.proofs.Names.{spelled, pid_word, AreBytes, IsWord, IsReadAgain, bare_word, words_again}
use Rattle.sk_trace.proofs.Names.{words_closed, spaced_line, literal_again, literal_word, natural_again, positive_again}
use Rattle.sk_trace.proofs.Names.{number_word, pid_again, pid_is_word, text_again, each, by_recursion, Input}
use Rattle.sk_trace.proofs.Names.{content_words, input_words, Event, IsEvent, IsInput, event_line, trace_of}
use Rattle.sk_trace.proofs.Names.{event_words, event_text, trace_text}
use Rattle.sk_words.specs.Operands.{none_of, one_of, the_two, both, two_of}
use Rattle.sk_script.specs.declared.instruction.Input.TheVariants as inputs
use Rattle.sk_script.specs.StepInput.{content, input}
use Rattle.sk_trace.specs.declared.event.Event.TheVariants as events
use Rattle.sk_trace.specs.Lines.{step, numbered_step, event}

-- ---- one word, or two, of which each says something

one_said : {A : Type 0} (a : List ℕ → Result A FaultKind) (v : List ℕ) (x : A) → IsWord v → a v ≡ Ok x → one_of a (v ∷ []) ≡ Ok x
unfolding one_of
one_said a v x word says = rw (word.closed, says) refl

two_said : {A B : Type 0} (a : List ℕ → Result A FaultKind) (b : List ℕ → Result B FaultKind) (v w : List ℕ) (x : A) (y : B) → IsWord v → IsWord w → a v ≡ Ok x → b w ≡ Ok y
    → two_of a b (v ∷ w ∷ []) ≡ Ok (x, y)
unfolding two_of the_two both
two_said a b v w x y first second says then_says = rw (first.closed, second.closed, says, then_says) refl

-- ---- inputs

content_is_words : (c : ContentView) → IsContent c → AreBytes c.bytes → AllByRecursion IsWord (content_words c)
content_is_words c h bytes = (number_word c.version (omega (arith, h.0)), (literal_word c.bytes bytes, tt))

content_again : (c : ContentView) → IsContent c → AreBytes c.bytes → content (content_words c) ≡ Ok c
unfolding content
content_again c h bytes =
    let version : c.version < 2 ^ 63 = omega (arith, h.0) in
    rw (two_said natural literal (decimal c.version) (spelled c.bytes) c.version c.bytes (number_word c.version (omega (arith, h.0))) (literal_word c.bytes bytes)
    (natural_again c.version version) (literal_again c.bytes bytes h.1)) refl

input_is_words : (i : Input) → IsInput i → AllByRecursion IsWord (input_words i)
input_is_words inputs.None h = (bare_word (codes "none") refl, tt)
input_is_words inputs.Good h = (bare_word (codes "good") refl, tt)
input_is_words (inputs.Fresh c) h = (bare_word (codes "fresh") refl, content_is_words c h.0 h.1)
input_is_words (inputs.Stale c) h = (bare_word (codes "stale") refl, content_is_words c h.0 h.1)

input_again : (i : Input) → IsInput i → input (input_words i) ≡ Ok i
unfolding input none_of
input_again inputs.None h = refl
input_again inputs.Good h = refl
input_again (inputs.Fresh c) h = rw (content_again c h.0 h.1) refl
input_again (inputs.Stale c) h = rw (content_again c h.0 h.1) refl

-- ---- steps

step_said : (w : List ℕ) (is : List (List ℕ)) (p : ℕ) (i : Input) → IsWord w → AllByRecursion IsWord is → pid w ≡ Ok p → input is ≡ Ok i → step (w ∷ is) ≡ Ok (p, i)
unfolding step
step_said w is p i word words says then_says = rw (word.closed, words_closed is words, then_says, says) refl

step_again : (p : ℕ) (i : Input) → IsPath p → IsInput i → step (pid_word p ∷ input_words i) ≡ Ok (p, i)
step_again p i path h = step_said (pid_word p) (input_words i) p i (pid_is_word p path) (input_is_words i h) (pid_again p path) (input_again i h)

numbered_said : (g : List ℕ) (ws : List (List ℕ)) (id p : ℕ) (i : Input) → IsWord g → AllByRecursion IsWord ws → positive g ≡ Ok id → step ws ≡ Ok (p, i) → numbered_step (g ∷ ws) ≡ Ok (id, p, i)
unfolding numbered_step
numbered_said g ws id p i word words says then_says = rw (word.closed, words_closed ws words, then_says, says) refl

step_is_words : (p : ℕ) (i : Input) → IsPath p → IsInput i → AllByRecursion IsWord (pid_word p ∷ input_words i)
step_is_words p i path h = (pid_is_word p path, input_is_words i h)

guess_is_word : (id : ℕ) → IsGuessNumber id → IsWord (decimal id)
guess_is_word id h = number_word id (omega (arith, h.1))

guess_again : (id : ℕ) → IsGuessNumber id → positive (decimal id) ≡ Ok id
guess_again id h = positive_again id h.0 (omega (arith, h.1))

-- ---- events

event_is_words : (e : Event) → IsEvent e → AllByRecursion IsWord (event_words e)
event_is_words (events.Step p i) h = (bare_word (codes "step") refl, step_is_words p i h.0 h.1)
event_is_words (events.Guess id p i) h = (bare_word (codes "guess") refl, (guess_is_word id h.0, step_is_words p i h.1 h.2))
event_is_words (events.Commit id) h = (bare_word (codes "commit") refl, (guess_is_word id h, tt))
event_is_words (events.Fail id) h = (bare_word (codes "fail") refl, (guess_is_word id h, tt))

-- what the words of an event add
abbrev from_words : List Event → List (List ℕ) → Result (List Event) FaultKind
from_words before ws = with_line event before (first_of ws)

step_line : (before : List Event) (p : ℕ) (i : Input) → IsPath p → IsInput i → from_words before (event_words (events.Step p i)) ≡ Ok (before ++ events.Step p i ∷ [])
unfolding event
step_line before p i path h = rw (step_again p i path h) refl

guess_line : (before : List Event) (id p : ℕ) (i : Input) → IsGuessNumber id → IsPath p → IsInput i → from_words before (event_words (events.Guess id p i)) ≡ Ok (before ++ events.Guess id p i ∷ [])
unfolding event
guess_line before id p i number path h =
    rw (numbered_said (decimal id) (pid_word p ∷ input_words i) id p i (guess_is_word id number) (step_is_words p i path h) (guess_again id number) (step_again p i path h)) refl

commit_line : (before : List Event) (id : ℕ) → IsGuessNumber id → from_words before (event_words (events.Commit id)) ≡ Ok (before ++ events.Commit id ∷ [])
unfolding event
commit_line before id h = rw (one_said positive (decimal id) id (guess_is_word id h) (guess_again id h)) refl

fail_line : (before : List Event) (id : ℕ) → IsGuessNumber id → from_words before (event_words (events.Fail id)) ≡ Ok (before ++ events.Fail id ∷ [])
unfolding event
fail_line before id h = rw (one_said positive (decimal id) id (guess_is_word id h) (guess_again id h)) refl

words_add : (e : Event) → IsEvent e → (before : List Event) → from_words before (event_words e) ≡ Ok (before ++ e ∷ [])
words_add (events.Step p i) h before = step_line before p i h.0 h.1
words_add (events.Guess id p i) h before = guess_line before id p i h.0 h.1 h.2
words_add (events.Commit id) h before = commit_line before id h
words_add (events.Fail id) h before = fail_line before id h

adds : (e : Event) → IsEvent e → (before : List Event) → event_line before (event_text e) ≡ Ok (before ++ e ∷ [])
adds e h before = ap (from_words before) (words_again (event_words e) (event_is_words e h)) ∙ words_add e h before

event_again : (e : Event) → IsEvent e → IsReadAgain event_line event_text e
event_again e h = record { line = spaced_line (event_words e) (event_is_words e h); adds = adds e h }

-- ---- traces

pub trace_again : (es : List Event) → All IsEvent es → trace_of (trace_text es) ≡ Ok es
trace_again es h = text_again event_line event_text 1 es (each event_again es (by_recursion IsEvent es h))

abbrev said : Result (List Event) Fault → List Event
said (Ok es) = es
said (Err f) = []

pub trace_once : (ds es : List Event) → All IsEvent ds → All IsEvent es → trace_text ds ≡ trace_text es → ds ≡ es
trace_once ds es h k same = ap said (sym (trace_again ds h) ∙ ap trace_of same ∙ trace_again es k)
