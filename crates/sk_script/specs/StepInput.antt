-- The inputs of steps, as words: what words say, and how an input is printed.
use Rattle.std.specs.Prelude.{ℕ, List, [], ◌∷◌, Ok, Err, codes, decimal}
use Rattle.sk_script.specs.Base.{ContentView, FaultKind, Input, ◌>>=◌, literal, natural, none_of, two_of, spelled}
use Rattle.sk_script.specs.Base.{Rule, rule_in, by_first}

-- a version and a literal
abbrev pub content_of : ℕ × List ℕ → ContentView
content_of x = record { version = x.0; bytes = x.1 }

-- the content that words say: a version and a literal
unfoldable pub content : Rule ContentView
content ws = two_of natural literal ws >>= λ x. Ok (content_of x)

abbrev pub input_rules : List (List ℕ × Rule Input)
input_rules =
    (codes "none", λ ws. none_of ws >>= λ x. Ok Input.None) ∷
    (codes "good", λ ws. none_of ws >>= λ x. Ok Input.Good) ∷
    (codes "fresh", λ ws. content ws >>= λ c. Ok (Input.Fresh c)) ∷
    (codes "stale", λ ws. content ws >>= λ c. Ok (Input.Stale c)) ∷
    []

-- an unknown input is told as such only where the count of words fits some input
abbrev pub no_input : List (List ℕ) → FaultKind
no_input [] = FaultKind.Operand
no_input (v ∷ w ∷ []) = FaultKind.Operand
no_input _ = FaultKind.Word

-- the input that words say, or their fault
unfoldable pub input : Rule Input
input ws = by_first (rule_in input_rules (λ vs. Err (no_input vs))) ws

-- ---- how an input is printed

-- a content: its version and its bytes
abbrev pub content_words : ContentView → List (List ℕ)
content_words c = decimal c.version ∷ spelled c.bytes ∷ []

abbrev pub input_words : Input → List (List ℕ)
input_words Input.None = codes "none" ∷ []
input_words Input.Good = codes "good" ∷ []
input_words (Input.Fresh c) = codes "fresh" ∷ content_words c
input_words (Input.Stale c) = codes "stale" ∷ content_words c
