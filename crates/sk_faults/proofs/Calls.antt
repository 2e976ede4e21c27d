-- What is found in an event of steps is what its reading tells.
use Rattle.sk_faults.proofs.Names.{ℕ, List, [], ◌∷◌, Bool, true, false, Some, None, Ok, bytes_eq, codes, if◌then◌else◌}
use Rattle.sk_faults.proofs.Names.{refl, ◌>>=◌, one_of, positive, Rule, rule_in, unknown, step, step_call, guess_call}
use Rattle.sk_faults.proofs.Names.{Call, Table, input_forms, forms_in, second, is_wide, operand_fault, found_behind}
use Rattle.sk_faults.proofs.Names.{Agrees}
use Rattle.sk_scenario.specs.Calls.{call}
use Rattle.sk_scenario.specs.declared.call.Call.TheVariants as calls
use Rattle.sk_script.specs.declared.form.Form.TheVariants as forms
use Rattle.sk_faults.specs.declared.part.Part.TheVariants as parts
use Rattle.sk_script.proofs.Readings.{reads_guess}
use Rattle.sk_faults.proofs.Agree.{then_agrees, one_so, in_table}
use Rattle.sk_faults.proofs.Steps.{step_agrees, last_forms, unknown_told}

abbrev last_calls : List (List ℕ × Rule Call)
last_calls =
    (codes "commit", λ ws. one_of positive ws >>= λ x. Ok (calls.Commit x)) ∷
    (codes "fail", λ ws. one_of positive ws >>= λ x. Ok (calls.Fail x)) ∷
    []

abbrev call_forms : Bool → Table
call_forms wide = (codes "guess", forms.Process ∷ input_forms wide) ∷ last_forms

pub call_agrees : (word : List ℕ) (ws : List (List ℕ)) → Agrees ws (call word ws) (found_behind parts.Steps word ws)
unfolding call
call_agrees word ws =
    let two = forms.Process ∷ input_forms (is_wide (second ws)) in
    elim (bytes_eq (codes "step") word) as (λ (t : Bool). Agrees ws ((if t then step_call else rule_in ((codes "guess", guess_call) ∷ last_calls) unknown word) ws)
    (let seat = if t then second ws else if bytes_eq (codes "guess") word then second ws else None in
    operand_fault seat (if t then Some (forms.Process ∷ input_forms (is_wide seat)) else forms_in (call_forms (is_wide seat)) None word) ws)) [
      | true ↦ then_agrees ws (step ws) (operand_fault (second ws) (Some two) ws) (λ x. Ok (calls.Step x.0 x.1)) (step_agrees ws) (λ x. tt)
      | false ↦ elim (bytes_eq (codes "guess") word) as (λ (t : Bool). Agrees ws ((if t then guess_call else rule_in last_calls unknown word) ws)
          (let seat = if t then second ws else None in
          operand_fault seat (if t then Some (forms.Process ∷ input_forms (is_wide seat)) else forms_in last_forms None word) ws)) [
            | true ↦ then_agrees ws (step ws) (operand_fault (second ws) (Some two) ws) (λ x. Ok (calls.Guess x.0 x.1)) (step_agrees ws) (λ x. tt)
            | false ↦ in_table last_calls last_forms unknown None word ws (
              refl,
              one_so forms.Guess positive reads_guess calls.Commit ws,
              (
                refl,
                one_so forms.Guess positive reads_guess calls.Fail ws,
                tt,
              ),
            ) (unknown_told Call ws)
          ]
    ]
