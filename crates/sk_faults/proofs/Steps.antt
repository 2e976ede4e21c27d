-- What is found in a line with an input is what its reading tells. The input is read before the words in front of it, so what is
-- wrong with these is told last; of malformed words the first is found, whichever is told, since all tell one kind.
use Rattle.sk_faults.proofs.Names.{◌≡◌, ℕ, ◌+◌, List, [], ◌∷◌, Bool, true, false, ◌||◌, Option, Some, None, Result, Ok}
use Rattle.sk_faults.proofs.Names.{Err, bytes_eq, codes, drop, if◌then◌else◌, refl, ◌∙◌, subst, list_any}
use Rattle.sk_faults.proofs.Names.{bytes_eq-Decides, FaultKind, ◌>>=◌, is_open, literal, next_word, one_of, natural}
use Rattle.sk_faults.proofs.Names.{positive, pid, Rule, rule_in, unknown, ContentView, Input, Event, Form, Found}
use Rattle.sk_faults.proofs.Names.{is_said, brings_content, fits, Table, input_forms, forms_in, fault_at, or_else}
use Rattle.sk_faults.proofs.Names.{count_at, wrong_at, input_word, second, third, is_wide, unknown_input, operand_fault}
use Rattle.sk_faults.proofs.Names.{found_behind, kind_of, Agrees}
use Rattle.sk_words.specs.declared.fault.FaultKind.TheVariants as kinds
use Rattle.sk_words.specs.Operands.{none_of, both, the_two, two_of}
use Rattle.sk_script.specs.declared.instruction.Input.TheVariants as inputs
use Rattle.sk_script.specs.StepInput.{content_of, content, input}
use Rattle.sk_trace.specs.Lines.{step, numbered_step, event}
use Rattle.sk_trace.specs.declared.event.Event.TheVariants as events
use Rattle.sk_script.specs.declared.form.Form.TheVariants as forms
use Rattle.sk_faults.specs.declared.part.Part.TheVariants as parts
use Rattle.sk_faults.specs.declared.found.Why.TheVariants as why
use Rattle.sk_script.proofs.Readings.{OnlyOperand, reads_natural, reads_literal, reads_guess, reads_process}
use Rattle.sk_faults.proofs.Agree.{after_open, then_agrees, one_so, in_table}

-- ---- nothing but words and operands is told of these lines

abbrev Exact : {A : Type 0} → List (List ℕ) → Result A FaultKind → Option Found → Type 0
Exact ws (Ok a) None = Unit {0}
Exact ws (Ok a) (Some f) = ⊥
Exact ws (Err e) None = ⊥
Exact ws (Err e) (Some f) = e ≡ kind_of f ws

exact_agrees : {A : Type 0} (ws : List (List ℕ)) (r : Result A FaultKind) (found : Option Found) → Exact ws r found → Agrees ws r found
exact_agrees ws (Ok a) None h = tt
exact_agrees ws (Ok a) (Some f) h = absurd h
exact_agrees ws (Err e) None h = absurd h
exact_agrees ws (Err e) (Some f) h = h

-- malformed words tell Operand
abbrev IsWrong : List (List ℕ) → Option Found → Type 0
IsWrong all None = Unit {0}
IsWrong all (Some f) = kind_of f all ≡ kinds.Operand

wrong_is : (all : List (List ℕ)) (index : ℕ) (fs : List Form) (ws : List (List ℕ)) → IsWrong all (wrong_at index fs ws)
wrong_is all index [] ws = tt
wrong_is all index (f ∷ fs) [] = tt
wrong_is all index (f ∷ fs) (w ∷ ws) =
    elim (fits f w) as (λ (t : Bool). IsWrong all (if t then wrong_at (index + 1) fs ws else fault_at index (why.Malformed f))) [
      | true ↦ wrong_is all (index + 1) fs ws
      | false ↦ refl
    ]

-- ---- a word that is read last, and found first among the malformed

last : {A B C : Type 0} (ws : List (List ℕ)) (before wrong : Option Found) (index : ℕ) (f : Form) (r : Result A FaultKind) (q : Result B FaultKind) (made : A → B → C)
    → OnlyOperand q → IsWrong ws wrong → Exact ws r (or_else before wrong)
    → Exact ws (r >>= λ x. q >>= λ y. Ok (made x y)) (or_else before (if is_said q then wrong else fault_at index (why.Malformed f)))
last ws (Some g) wrong index f (Ok x) q made o i h = absurd h
last ws (Some g) wrong index f (Err e) q made o i h = h
last ws None None index f (Ok x) (Ok y) made o i h = tt
last ws None (Some g) index f (Ok x) (Ok y) made o i h = absurd h
last ws None wrong index f (Ok x) (Err e) made o i h = o
last ws None None index f (Err e) (Ok y) made o i h = absurd h
last ws None (Some g) index f (Err e) (Ok y) made o i h = h
last ws None None index f (Err e) (Err k) made o i h = absurd h
last ws None (Some g) index f (Err e) (Err k) made o i h = h ∙ i

or_assoc : (a b c : Option Found) → or_else (or_else a b) c ≡ or_else a (or_else b c)
or_assoc None b c = refl
or_assoc (Some f) b c = refl

-- ---- inputs

reads_on : {A B : Type 0} (ws : List (List ℕ)) (index : ℕ) (f : Form) (r : Result A FaultKind) (later : Option Found) (rest : Result A FaultKind → Result B FaultKind)
    → OnlyOperand r → ((e : FaultKind) → rest (Err e) ≡ Err e) → ((x : A) → Exact ws (rest (Ok x)) later) → Exact ws (rest r) (if is_said r then later else fault_at index (why.Malformed f))
reads_on ws index f (Ok x) later rest o errs ok = ok x
reads_on ws index f (Err e) later rest o errs ok = rw (errs e) o

abbrev input_found : ℕ → List ℕ → List (List ℕ) → Option Found
input_found index w vs =
    or_else (unknown_input (Some (input_word index w))) (or_else (count_at index (input_forms (brings_content w)) (w ∷ vs)) (wrong_at index (input_forms (brings_content w)) (w ∷ vs)))

bare : (all : List (List ℕ)) (index : ℕ) (w : List ℕ) (i : Input) (vs : List (List ℕ)) → list_any is_open vs ≡ false
    → Exact all (none_of vs >>= λ x. Ok i) (or_else (count_at (index + 1) [] vs) None)
unfolding none_of
bare all index w i [] h = tt
bare all index w i (v ∷ vs) h = rw h refl

with_content : (all : List (List ℕ)) (index : ℕ) (make : ContentView → Input) (vs : List (List ℕ)) → list_any is_open vs ≡ false
    → Exact all (content vs >>= λ c. Ok (make c)) (or_else (count_at index (forms.Natural ∷ forms.Literal ∷ []) vs) (wrong_at index (forms.Natural ∷ forms.Literal ∷ []) vs))
unfolding content two_of the_two both
with_content all index make [] h = refl
with_content all index make (v ∷ []) h = rw h refl
with_content all index make (v ∷ u ∷ []) h =
    rw h (reads_on all index forms.Natural (natural v) (if fits forms.Literal u then None else fault_at (index + 1) (why.Malformed forms.Literal))
    (λ r. ((r >>= λ x. literal u >>= λ y. Ok (x, y)) >>= λ x. Ok (content_of x)) >>= λ c. Ok (make c)) (reads_natural v).1 (λ e. refl)
    (λ x. reads_on all (index + 1) forms.Literal (literal u) None (λ r. ((r >>= λ y. Ok (x, y)) >>= λ x. Ok (content_of x)) >>= λ c. Ok (make c)) (reads_literal u).1 (λ e. refl) (λ y. tt)))
with_content all index make (v ∷ u ∷ t ∷ vs) h = rw h refl

is_word : (x w : List ℕ) → bytes_eq x w ≡ true → x ≡ w
is_word x w e = (bytes_eq-Decides x w).0 e

input_exact : (all : List (List ℕ)) (index : ℕ) (w : List ℕ) (vs : List (List ℕ)) → list_any is_open vs ≡ false → drop index all ≡ vs → Exact all (input (w ∷ vs)) (input_found index w vs)
unfolding input
input_exact all index w vs h behind =
    elim (bytes_eq (codes "none") w) as (λ (t : Bool). bytes_eq (codes "none") w ≡ t → Exact all (input (w ∷ vs)) (input_found index w vs)) [
      | true ↦ λ e. subst (λ w. Exact all (input (w ∷ vs)) (input_found index w vs)) (is_word (codes "none") w e) (bare all index w inputs.None vs h)
      | false ↦ λ none. elim (bytes_eq (codes "good") w) as (λ (t : Bool). bytes_eq (codes "good") w ≡ t → Exact all (input (w ∷ vs)) (input_found index w vs)) [
        | true ↦ λ e. subst (λ w. Exact all (input (w ∷ vs)) (input_found index w vs)) (is_word (codes "good") w e) (bare all index w inputs.Good vs h)
        | false ↦ λ good. elim (bytes_eq (codes "fresh") w) as (λ (t : Bool). bytes_eq (codes "fresh") w ≡ t → Exact all (input (w ∷ vs)) (input_found index w vs)) [
          | true ↦ λ e. subst (λ w. Exact all (input (w ∷ vs)) (input_found index w vs)) (is_word (codes "fresh") w e) (with_content all (index + 1) (λ c. inputs.Fresh c) vs h)
          | false ↦ λ fresh. elim (bytes_eq (codes "stale") w) as (λ (t : Bool). bytes_eq (codes "stale") w ≡ t → Exact all (input (w ∷ vs)) (input_found index w vs)) [
            | true ↦ λ e. subst (λ w. Exact all (input (w ∷ vs)) (input_found index w vs)) (is_word (codes "stale") w e) (with_content all (index + 1) (λ c. inputs.Stale c) vs h)
            | false ↦ λ stale. rw (none, good, fresh, stale, behind) refl
          ] refl
        ] refl
      ] refl
    ] refl

-- ---- steps

abbrev step_body : List (List ℕ) → Result (ℕ × Input) FaultKind
step_body ws = next_word ws >>= λ p. input p.1 >>= λ i. pid p.0 >>= λ who. Ok (who, i)

abbrev step_found : List (List ℕ) → Option Found
step_found ws =
    let fs = forms.Process ∷ input_forms (is_wide (second ws)) in
    or_else (unknown_input (second ws)) (or_else (count_at 1 fs ws) (wrong_at 1 fs ws))

others_closed : (w : List ℕ) (ws : List (List ℕ)) → list_any is_open (w ∷ ws) ≡ false → list_any is_open ws ≡ false
others_closed w ws h =
    elim (is_open w) as (λ (t : Bool). (t || list_any is_open ws) ≡ false → list_any is_open ws ≡ false) [
      | true ↦ λ e. absurd cc
      | false ↦ λ e. e
    ] h

step_words : (all : List (List ℕ)) (front : ℕ) (p w : List ℕ) (vs : List (List ℕ)) → list_any is_open vs ≡ false → drop (front + 1) all ≡ vs
    → Exact {A = ℕ × Input} all (input (w ∷ vs) >>= λ i. pid p >>= λ who. Ok (who, i))
    (or_else (or_else (unknown_input (Some (input_word (front + 1) w))) (count_at (front + 1) (input_forms (brings_content w)) (w ∷ vs)))
    (if fits forms.Process p then wrong_at (front + 1) (input_forms (brings_content w)) (w ∷ vs) else fault_at front (why.Malformed forms.Process)))
step_words all front p w vs h behind =
    let fs = input_forms (brings_content w) in
    let ws = w ∷ vs in
    let unknown = unknown_input (Some (input_word (front + 1) w)) in
    let count = count_at (front + 1) fs ws in
    let wrong = wrong_at (front + 1) fs ws in
    last {C = ℕ × Input} all (or_else unknown count) wrong front forms.Process (input ws) (pid p) (λ i who. (who, i)) (reads_process p).1 (wrong_is all (front + 1) fs ws)
    (rw (or_assoc unknown count wrong) (input_exact all (front + 1) w vs h behind))

step_exact : (ws : List (List ℕ)) → list_any is_open ws ≡ false → Exact ws (step_body ws) (step_found ws)
unfolding input
step_exact [] h = refl
step_exact (p ∷ []) h = refl
step_exact (p ∷ w ∷ vs) h =
    let fs = input_forms (brings_content w) in
    let ws = w ∷ vs in
    rw (← or_assoc (unknown_input (Some (input_word 2 w))) (count_at 2 fs ws) (if fits forms.Process p then wrong_at 2 fs ws else fault_at 1 (why.Malformed forms.Process)))
    (step_words (p ∷ w ∷ vs) 1 p w vs (others_closed w vs (others_closed p (w ∷ vs) h)) refl)

pub step_agrees : (ws : List (List ℕ)) → Agrees ws (step ws) (operand_fault (second ws) (Some (forms.Process ∷ input_forms (is_wide (second ws)))) ws)
unfolding step
step_agrees ws = after_open ws step_body (step_found ws) (λ h. exact_agrees ws (step_body ws) (step_found ws) (step_exact ws h))

-- ---- steps behind the number of a guess

abbrev numbered_body : List (List ℕ) → Result (ℕ × ℕ × Input) FaultKind
numbered_body ws = next_word ws >>= λ g. step g.1 >>= λ s. positive g.0 >>= λ id. Ok (id, s.0, s.1)

abbrev numbered_found : List (List ℕ) → Option Found
numbered_found ws =
    let fs = forms.Guess ∷ forms.Process ∷ input_forms (is_wide (third ws)) in
    or_else (unknown_input (third ws)) (or_else (count_at 1 fs ws) (wrong_at 1 fs ws))

numbered_exact : (ws : List (List ℕ)) → list_any is_open ws ≡ false → Exact ws (numbered_body ws) (numbered_found ws)
unfolding step input
numbered_exact [] h = refl
numbered_exact (g ∷ []) h = refl
numbered_exact (g ∷ p ∷ []) h = rw (others_closed g (p ∷ []) h) refl
numbered_exact (g ∷ p ∷ w ∷ vs) h =
    let all = g ∷ p ∷ w ∷ vs in
    let fs = input_forms (brings_content w) in
    let ws = w ∷ vs in
    let unknown = unknown_input (Some (input_word 3 w)) in
    let count = count_at 3 fs ws in
    let wrong = if fits forms.Process p then wrong_at 3 fs ws else fault_at 2 (why.Malformed forms.Process) in
    let rest_closed = others_closed g (p ∷ w ∷ vs) h in
    rw (rest_closed, ← or_assoc unknown count (if fits forms.Guess g then wrong else fault_at 1 (why.Malformed forms.Guess)))
    (last {C = ℕ × ℕ × Input} all (or_else unknown count) wrong 1 forms.Guess (input ws >>= λ i. pid p >>= λ who. Ok (who, i)) (positive g) (λ s id. (id, s.0, s.1))
    (reads_guess g).1 (wrong_is all 2 (forms.Process ∷ fs) (p ∷ ws))
    (step_words all 2 p w vs (others_closed w vs (others_closed p (w ∷ vs) rest_closed)) refl))

pub numbered_agrees : (ws : List (List ℕ)) → Agrees ws (numbered_step ws) (operand_fault (third ws) (Some (forms.Guess ∷ forms.Process ∷ input_forms (is_wide (third ws)))) ws)
unfolding numbered_step
numbered_agrees ws = after_open ws numbered_body (numbered_found ws) (λ h. exact_agrees ws (numbered_body ws) (numbered_found ws) (numbered_exact ws h))

-- ---- events of a trace

pub unknown_told : (A : Type 0) (ws : List (List ℕ)) → Agrees {A = A} ws (unknown ws) (operand_fault None None ws)
unknown_told A ws = refl

abbrev pub last_forms : Table
last_forms = (codes "commit", forms.Guess ∷ []) ∷ (codes "fail", forms.Guess ∷ []) ∷ []

abbrev last_events : List (List ℕ × Rule Event)
last_events =
    (codes "commit", λ ws. one_of positive ws >>= λ x. Ok (events.Commit x)) ∷
    (codes "fail", λ ws. one_of positive ws >>= λ x. Ok (events.Fail x)) ∷
    []

abbrev guess_forms : Bool → Table
guess_forms wide = (codes "guess", forms.Guess ∷ forms.Process ∷ input_forms wide) ∷ last_forms

abbrev event_step : Rule Event
event_step ws = step ws >>= λ x. Ok (events.Step x.0 x.1)

abbrev event_guess : Rule Event
event_guess ws = numbered_step ws >>= λ x. Ok (events.Guess x.0 x.1 x.2)

pub event_agrees : (word : List ℕ) (ws : List (List ℕ)) → Agrees ws (event word ws) (found_behind parts.Trace word ws)
unfolding event
event_agrees word ws =
    let two = forms.Process ∷ input_forms (is_wide (second ws)) in
    let three = forms.Guess ∷ forms.Process ∷ input_forms (is_wide (third ws)) in
    elim (bytes_eq (codes "step") word) as (λ (t : Bool). Agrees ws ((if t then event_step else rule_in ((codes "guess", event_guess) ∷ last_events) unknown word) ws)
    (let seat = if t then second ws else if bytes_eq (codes "guess") word then third ws else None in
    operand_fault seat (if t then Some (forms.Process ∷ input_forms (is_wide seat)) else forms_in (guess_forms (is_wide seat)) None word) ws)) [
      | true ↦ then_agrees ws (step ws) (operand_fault (second ws) (Some two) ws) (λ x. Ok (events.Step x.0 x.1)) (step_agrees ws) (λ x. tt)
      | false ↦ elim (bytes_eq (codes "guess") word) as (λ (t : Bool). Agrees ws ((if t then event_guess else rule_in last_events unknown word) ws)
          (let seat = if t then third ws else None in
          operand_fault seat (if t then Some (forms.Guess ∷ forms.Process ∷ input_forms (is_wide seat)) else forms_in last_forms None word) ws)) [
            | true ↦ then_agrees ws (numbered_step ws) (operand_fault (third ws) (Some three) ws) (λ x. Ok (events.Guess x.0 x.1 x.2)) (numbered_agrees ws) (λ x. tt)
            | false ↦ in_table last_events last_forms unknown None word ws (
              refl,
              one_so forms.Guess positive reads_guess events.Commit ws,
              (
                refl,
                one_so forms.Guess positive reads_guess events.Fail ws,
                tt,
              ),
            ) (unknown_told Event ws)
          ]
    ]
