-- The parts and the lines of a text.
use Rattle.std.specs.Prelude.{ℕ, ◌+◌, length, List, Option, Some, None, take, ◌==◌, refl}
use Rattle.std.specs.List.{slice_split}
use Rattle.std.specs.Coded.{Coded, code_by, coded×, coded_ℕ, coded_list}

-- the parts of a text between separators
abbrev pub parts : ℕ → List ℕ → List (List ℕ)
parts separator text = slice_split (λ b. b == separator) text

-- all lines, or the first so many
abbrev pub at_most : Option ℕ → List (List ℕ) → List (List ℕ)
at_most None ls = ls
at_most (Some n) ls = take n ls

-- the lines that are left of a text, and the number of the last line taken from it
pub record CursorView : Type 0 where
  pub line : ℕ
  pub lines : List (List ℕ)

-- the number of the last line
abbrev pub last_line : CursorView → ℕ
last_line c = c.line + length c.lines

abbrev pub cursor_code : Coded CursorView
cursor_code = code_by (ℕ × List (List ℕ)) (coded× coded_ℕ (coded_list (coded_list coded_ℕ))) (λ c. (c.line, c.lines)) (λ p. record { line = p.0; lines = p.1 }) (λ _. refl)
