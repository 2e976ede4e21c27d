-- What the lines of a section of steps say.
use Rattle.std.specs.Prelude.{ℕ, List, [], ◌∷◌, Result, Ok, codes}
use Rattle.sk_scenario.specs.Base.{FaultKind, ◌>>=◌, one_of, positive, Rule, rule_in, unknown, with_item, step, Call}

-- what the words of a step say
abbrev pub step_call : Rule Call
step_call ws = step ws >>= λ x. Ok (Call.Step x.0 x.1)

-- what the words of a guess say
abbrev pub guess_call : Rule Call
guess_call ws = step ws >>= λ x. Ok (Call.Guess x.0 x.1)

abbrev pub step_rules : List (List ℕ × Rule Call)
step_rules =
    (codes "step", step_call) ∷
    (codes "guess", guess_call) ∷
    (codes "commit", λ ws. one_of positive ws >>= λ x. Ok (Call.Commit x)) ∷
    (codes "fail", λ ws. one_of positive ws >>= λ x. Ok (Call.Fail x)) ∷
    []

-- what a line says whose first word this is
unfoldable pub call : List ℕ → Rule Call
call word ws = rule_in step_rules unknown word ws

-- the steps so far, with that of a line
abbrev pub step_line : List Call → List ℕ → Result (List Call) FaultKind
step_line = with_item call
