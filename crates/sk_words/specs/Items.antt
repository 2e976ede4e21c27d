-- What the lines of a section say, one after the other.
use Rattle.std.specs.Prelude.{◌≡◌, ℕ, List, [], ◌∷◌, ◌++◌, Result, Ok}
use Rattle.std.specs.Str.Lines.{lines}
use Rattle.sk_words.specs.declared.fault.FaultKind.{FaultKind}
use Rattle.sk_words.specs.Words.{words, first_of}
use Rattle.sk_words.specs.Tables.{Rule, with_line}

-- the items so far, with that of a line
abbrev pub with_item : {A : Type 0} → (List ℕ → Rule A) → List A → List ℕ → Result (List A) FaultKind
with_item rule before line = with_line rule before (first_of (words line))

-- a text begins with a line that says this item, and this is left behind it
abbrev pub BeginsWith : {A : Type 0} → (List ℕ → Rule A) → List ℕ → A → List ℕ → Type 0
BeginsWith {A = A} rule text item rest = (line : List ℕ) × (lines text ≡ line ∷ lines rest) × ((before : List A) → with_item rule before line ≡ Ok (before ++ item ∷ []))
