-- Tables of first words, each with what the words behind it say.
use Rattle.std.specs.Prelude.{List, [], ◌∷◌, ◌++◌, ℕ, Option, Some, None, Result, Ok, Err, bytes_eq, if◌then◌else◌}
use Rattle.sk_words.specs.declared.fault.FaultKind.{FaultKind}
use Rattle.sk_words.specs.declared.fault.FaultKind.TheVariants as kinds

-- what some words say
abbrev pub Rule : Type 0 → Type 0
Rule A = List (List ℕ) → Result A FaultKind

-- the rule of a word in a table, or another rule where the table has none
abbrev pub rule_in : {A : Type 0} → List (List ℕ × Rule A) → Rule A → List ℕ → Rule A
rule_in [] others word = others
rule_in (r ∷ rs) others word = if bytes_eq r.0 word then r.1 else rule_in rs others word

abbrev pub unknown : {A : Type 0} → Rule A
unknown ws = Err kinds.Word

-- the rule of the first word, for the words behind it
abbrev pub by_first : {A : Type 0} → (List ℕ → Rule A) → Rule A
by_first rule [] = Err kinds.Word
by_first rule (w ∷ ws) = rule w ws

-- ---- a list to which each line adds what the rule of its first word says

-- the list with what was said behind it, or the fault
abbrev pub with_said : {A : Type 0} → List A → Result A FaultKind → Result (List A) FaultKind
with_said before (Ok a) = Ok (before ++ a ∷ [])
with_said before (Err e) = Err e

-- a line is seen as its first word and the words behind it; none adds nothing
abbrev pub with_line : {A : Type 0} → (List ℕ → Rule A) → List A → Option (List ℕ × List (List ℕ)) → Result (List A) FaultKind
with_line rule before None = Ok before
with_line rule before (Some x) = with_said before (rule x.0 x.1)
