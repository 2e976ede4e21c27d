-- How a line of a file is told.
use Rattle.std.specs.Prelude.{ℕ, List, [], ◌∷◌, ◌++◌, codes, decimal}

-- words, each behind a space
abbrev pub spelled : List (List ℕ) → List ℕ
spelled [] = []
spelled (w ∷ ws) = 32 ∷ w ++ spelled ws

-- the line of this number and of these words
abbrev pub line_told : ℕ → List (List ℕ) → List ℕ
line_told number ws = codes "line " ++ decimal number ++ spelled ws ++ 10 ∷ []
