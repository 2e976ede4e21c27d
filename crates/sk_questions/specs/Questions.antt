-- What lines ask.
use Rattle.std.specs.Prelude.{ℕ, List, [], ◌∷◌, Option, Some, None, Result, Ok, codes}
use Rattle.sk_words.specs.declared.fault.FaultKind.{FaultKind}
use Rattle.sk_words.specs.Faults.{◌>>=◌}
use Rattle.sk_words.specs.Operands.{none_of, one_of, two_of, positive, index, short, pid}
use Rattle.sk_words.specs.Tables.{Rule, rule_in}
use Rattle.sk_words.specs.Words.{words, first_of}
use Rattle.sk_questions.specs.Named.{entity}
use Rattle.sk_questions.specs.declared.question.Question.{Question}
use Rattle.sk_questions.specs.declared.asked.Asked.{Asked}

-- this question is asked
abbrev pub asking : Question → Option Asked
asking q = Some (Asked.Question q)

abbrev pub question_rules : List (List ℕ × Rule (Option Asked))
question_rules =
    (codes "value", λ ws. entity ws >>= λ e. Ok (asking (Question.Value e))) ∷
    (codes "tags", λ ws. entity ws >>= λ e. Ok (asking (Question.Tags e))) ∷
    (codes "dependents", λ ws. one_of positive ws >>= λ id. Ok (asking (Question.Dependents id))) ∷
    (codes "terminal", λ ws. one_of index ws >>= λ n. Ok (asking (Question.Terminal n))) ∷
    (codes "released", λ ws. one_of index ws >>= λ n. Ok (Some (Asked.Released n))) ∷
    (codes "counts", λ ws. none_of ws >>= λ _. Ok (asking Question.Counts)) ∷
    (codes "trace", λ ws. none_of ws >>= λ _. Ok (asking Question.Trace)) ∷
    (codes "report", λ ws. none_of ws >>= λ _. Ok (asking Question.Report)) ∷
    (codes "epoch", λ ws. none_of ws >>= λ _. Ok (Some Asked.Epoch)) ∷
    (codes "lease", λ ws. two_of pid short ws >>= λ x. Ok (Some (Asked.Lease x.0 x.1))) ∷
    []

-- a word that does not ask
abbrev pub no_question : Rule (Option Asked)
no_question ws = Ok None

-- what a line asks whose first word this is
unfoldable pub asked_with : List ℕ → Rule (Option Asked)
asked_with word ws = rule_in question_rules no_question word ws

abbrev pub asked_in : Option (List ℕ × List (List ℕ)) → Result (Option Asked) FaultKind
asked_in None = Ok None
asked_in (Some x) = asked_with x.0 x.1

-- what a line asks, if anything
abbrev pub asked_by : List ℕ → Result (Option Asked) FaultKind
asked_by line = asked_in (first_of (words line))
