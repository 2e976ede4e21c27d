-- A word that is no input is told as the count of words says: from the table of inputs.
use Rattle.sk_script.proofs.Names.{rules, ◌≡◌, ◌∷◌, refl, next_word, input_rules, no_input, taken, skipped, no_text}
use Rattle.std.specs.Prelude.{Ok, Err}
use Rattle.sk_script.specs.StepInput.{input}
use Rattle.sk_script.proofs.step_input.input.Goals as goal

pub returns-in_default : goal.returns-in_default
unfolding input
returns-in_default c =
    let took : next_word c.args.words.now ≡ Ok (c.in_ok-word.word.now, c.next_word.new.words) = search rules in
    let cut = taken c.args.words.now c.in_ok-word.word.now c.next_word.new.words took in
    rw (cut, skipped input_rules (λ vs. Err (no_input vs)) c.in_ok-word.word.now (no_text input_rules c.in_ok-word.word.now refl c.in_default.ensures.cases.0), c.no_input.ensures) refl

pub returns-in_default-word : goal.returns-in_default-word
unfolding input
returns-in_default-word c =
    let took : next_word c.args.words.now ≡ Ok (c.in_ok-word.word.now, c.next_word.new.words) = search rules in
    let same : c.in-Ok.word.now ≡ c.in_ok-word.word.now = c.in-Ok.ensures.cases.0 in
    let cut : c.args.words.now ≡ c.in-Ok.word.now ∷ c.next_word.new.words = rw same (taken c.args.words.now c.in_ok-word.word.now c.next_word.new.words took) in
    rw (cut, skipped input_rules (λ vs. Err (no_input vs)) c.in-Ok.word.now (search rules), c.no_input-in_default-word.ensures) refl
