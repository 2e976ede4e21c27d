-- Lines that are told at a glance: from what is known of printed words.
use Rattle.sk_scenario.proofs.Names.{◌≡◌, ◌≤◌, ℕ, List, [], ◌∷◌, ◌++◌, ◌∙◌, Result, Ok, refl, ap, sym, get_or, arith, codes, lines}
use Rattle.sk_scenario.proofs.Names.{AllByRecursion, lt-ltb, Rule, FaultKind, words, first_of, with_line, IsWord, spaced}
use Rattle.sk_scenario.proofs.Names.{bare_word, words_again, words_closed, spaced_line, line_cut, pid, Input}
use Rattle.sk_scenario.proofs.Names.{BeginsWith, EndsLine}
use Rattle.sk_words.specs.Operands.{none_of, one_of, positive}
use Rattle.sk_script.specs.StepInput.{input}
use Rattle.sk_script.specs.declared.instruction.Input.TheVariants as inputs
use Rattle.sk_trace.specs.Lines.{step}
use Rattle.sk_scenario.specs.Calls.{call}
use Rattle.sk_scenario.specs.WorldEvents.{world_event}
use Rattle.sk_scenario.specs.declared.call.Call.TheVariants as calls
use Rattle.sk_trace.specs.declared.world_event.WorldEvent.TheVariants as events

-- ---- a text that begins with a line of these words

pub begins : {A : Type 0} (rule : List ℕ → Rule A) (ws : List (List ℕ)) (text rest : List ℕ) (item : A) → AllByRecursion IsWord ws → text ≡ spaced ws ++ 10 ∷ rest
    → ((before : List A) → with_line rule before (first_of ws) ≡ Ok (before ++ item ∷ [])) → BeginsWith rule text item rest
begins {A = A} rule ws text rest item are is adds = (
  spaced ws,
  ap lines is ∙ line_cut (spaced ws) rest (spaced_line ws are),
  λ before. ap (λ (x : List (List ℕ)). with_line rule before (first_of x)) (words_again ws are) ∙ adds before,
)

pub begins_step : (text tail rest : List ℕ) (p : ℕ) (i : Input) → text ≡ codes "step " ++ tail → EndsLine step tail (p, i) rest → BeginsWith call text (calls.Step p i) rest
unfolding call
begins_step text tail rest p i is e =
    begins call (codes "step" ∷ e.0 ∷ e.1) text rest (calls.Step p i) (bare_word (codes "step") refl, e.3) (is ∙ ap (λ (t : List ℕ). codes "step " ++ t) e.2) (λ before. rw e.4 refl)

pub begins_guess : (text tail rest : List ℕ) (p : ℕ) (i : Input) → text ≡ codes "guess " ++ tail → EndsLine step tail (p, i) rest → BeginsWith call text (calls.Guess p i) rest
unfolding call
begins_guess text tail rest p i is e =
    begins call (codes "guess" ∷ e.0 ∷ e.1) text rest (calls.Guess p i) (bare_word (codes "guess") refl, e.3) (is ∙ ap (λ (t : List ℕ). codes "guess " ++ t) e.2) (λ before. rw e.4 refl)

pub begins_commit : (text tail rest : List ℕ) (g : ℕ) → text ≡ codes "commit " ++ tail → EndsLine (one_of positive) tail g rest → BeginsWith call text (calls.Commit g) rest
unfolding call
begins_commit text tail rest g is e =
    begins call (codes "commit" ∷ e.0 ∷ e.1) text rest (calls.Commit g) (bare_word (codes "commit") refl, e.3) (is ∙ ap (λ (t : List ℕ). codes "commit " ++ t) e.2) (λ before. rw e.4 refl)

pub begins_fail : (text tail rest : List ℕ) (g : ℕ) → text ≡ codes "fail " ++ tail → EndsLine (one_of positive) tail g rest → BeginsWith call text (calls.Fail g) rest
unfolding call
begins_fail text tail rest g is e =
    begins call (codes "fail" ∷ e.0 ∷ e.1) text rest (calls.Fail g) (bare_word (codes "fail") refl, e.3) (is ∙ ap (λ (t : List ℕ). codes "fail " ++ t) e.2) (λ before. rw e.4 refl)

pub begins_turn : (text tail rest : List ℕ) (p : ℕ) → text ≡ codes "turn " ++ tail → EndsLine (one_of pid) tail p rest → BeginsWith world_event text (events.Turn p) rest
unfolding world_event
begins_turn text tail rest p is e =
    begins world_event (codes "turn" ∷ e.0 ∷ e.1) text rest (events.Turn p) (bare_word (codes "turn") refl, e.3) (is ∙ ap (λ (t : List ℕ). codes "turn " ++ t) e.2) (λ before. rw e.4 refl)

pub begins_serve : (text rest : List ℕ) → text ≡ codes "serve" ++ 10 ∷ rest → BeginsWith world_event text events.Serve rest
unfolding world_event none_of
begins_serve text rest is = begins world_event (codes "serve" ∷ []) text rest events.Serve (bare_word (codes "serve") refl, tt) is (λ before. refl)

pub begins_reply : (text rest : List ℕ) → text ≡ codes "reply" ++ 10 ∷ rest → BeginsWith world_event text events.Reply rest
unfolding world_event none_of
begins_reply text rest is = begins world_event (codes "reply" ∷ []) text rest events.Reply (bare_word (codes "reply") refl, tt) is (λ before. refl)

-- ---- the ends of lines

digit_word : (d : ℕ) → 48 ≤ d → IsWord (d ∷ [])
digit_word d low = bare_word (d ∷ []) (rw (lt-ltb 35 d (omega (arith, low))) refl)

pub one_said : {A : Type 0} (read : List ℕ → Result A FaultKind) (w : List ℕ) (x : A) → IsWord w → read w ≡ Ok x → one_of read (w ∷ []) ≡ Ok x
unfolding one_of
one_said read w x word says = rw (word.closed, says) refl

step_said : (w : List ℕ) (is : List (List ℕ)) (p : ℕ) (i : Input) → IsWord w → AllByRecursion IsWord is → pid w ≡ Ok p → input is ≡ Ok i → step (w ∷ is) ≡ Ok (p, i)
unfolding step
step_said w is p i word words says then_says = rw (word.closed, words_closed is words, then_says, says) refl

-- a digit before words is the first byte of them
same_byte : (text x y : List ℕ) (d b : ℕ) → text ≡ d ∷ x → text ≡ b ∷ y → text ≡ d ∷ y
same_byte text x y d b one other = other ∙ ap (λ (a : ℕ). a ∷ y) (ap (λ (l : List ℕ). get_or l 0 0) (sym other ∙ one))

pub ends_pid : (text x rest : List ℕ) (d b p : ℕ) → 48 ≤ d → text ≡ d ∷ x → text ≡ b ∷ 10 ∷ rest → pid (d ∷ []) ≡ Ok p → EndsLine (one_of pid) text p rest
ends_pid text x rest d b p low is other says = (d ∷ [], [], same_byte text x (10 ∷ rest) d b is other, (digit_word d low, tt), one_said pid (d ∷ []) p (digit_word d low) says)

ends_step : (text x w rest : List ℕ) (d b p : ℕ) (i : Input) → 48 ≤ d → IsWord w → text ≡ d ∷ x → text ≡ b ∷ 32 ∷ w ++ 10 ∷ rest → pid (d ∷ []) ≡ Ok p → input (w ∷ []) ≡ Ok i → EndsLine step text (p, i) rest
ends_step text x w rest d b p i low word is other says then_says =
    (d ∷ [], w ∷ [], same_byte text x (32 ∷ w ++ 10 ∷ rest) d b is other, (digit_word d low, (word, tt)), step_said (d ∷ []) (w ∷ []) p i (digit_word d low) (word, tt) says then_says)

input_none : input (codes "none" ∷ []) ≡ Ok inputs.None
unfolding input none_of
input_none = refl

input_good : input (codes "good" ∷ []) ≡ Ok inputs.Good
unfolding input none_of
input_good = refl

pub ends_none : (text x rest : List ℕ) (d b p : ℕ) → 48 ≤ d → text ≡ d ∷ x → text ≡ b ∷ 32 ∷ codes "none" ++ 10 ∷ rest → pid (d ∷ []) ≡ Ok p → EndsLine step text (p, inputs.None) rest
ends_none text x rest d b p low is other says = ends_step text x (codes "none") rest d b p inputs.None low (bare_word (codes "none") refl) is other says input_none

pub ends_good : (text x rest : List ℕ) (d b p : ℕ) → 48 ≤ d → text ≡ d ∷ x → text ≡ b ∷ 32 ∷ codes "good" ++ 10 ∷ rest → pid (d ∷ []) ≡ Ok p → EndsLine step text (p, inputs.Good) rest
ends_good text x rest d b p low is other says = ends_step text x (codes "good") rest d b p inputs.Good low (bare_word (codes "good") refl) is other says input_good
