-- The line of a script at which a process stands. Lines are their words here, each line with its number.
use Rattle.std.specs.Prelude.{ℕ, ◌+◌, ◌-◌, Bool, false, not, ◌==◌, ◌||◌, ◌&&◌, List, [], ◌∷◌, codes, bytes_eq, if◌then◌else◌, Option, Some, None}
use Rattle.sk_words.specs.Words.{words, first_of}

-- whether a colon is among some bytes
abbrev pub has_colon : List ℕ → Bool
has_colon [] = false
has_colon (b ∷ bs) = b == 58 || has_colon bs

-- whether a line begins with this word
abbrev pub begins_with : List ℕ → List (List ℕ) → Bool
begins_with word [] = false
begins_with word (w ∷ ws) = bytes_eq w word

-- whether a line begins the script of this name
abbrev pub is_heading : List ℕ → List (List ℕ) → Bool
is_heading name [] = false
is_heading name (w ∷ []) = false
is_heading name (w ∷ v ∷ vs) = bytes_eq w (codes "script") && bytes_eq v name

-- whether a line of a script is an instruction: it says something, and is no label
abbrev pub is_instruction_of : Option (List ℕ × List (List ℕ)) → Bool
is_instruction_of None = false
is_instruction_of (Some said) = not (has_colon said.0)

abbrev pub is_instruction : List (List ℕ) → Bool
is_instruction ws = is_instruction_of (first_of ws)

-- whether a process stands at a line, with so many instructions still to pass; behind the last it is at the `end`
abbrev pub is_at : ℕ → List (List ℕ) → Bool
is_at left ws = begins_with (codes "end") ws || (left == 0 && is_instruction ws)

-- how many there are still to pass behind the line
abbrev pub left_behind : ℕ → List (List ℕ) → ℕ
left_behind left ws = if is_instruction ws then left - 1 else left

-- the line at a place of a script, of those behind its heading, of which the first has this number
abbrev pub at_place : ℕ → ℕ → List (List ℕ) → Option (ℕ × List (List ℕ))
at_place left number [] = None
at_place left number (l ∷ ls) = if is_at left (words l) then Some (number, words l) else at_place (left_behind left (words l)) (number + 1) ls

-- the line at a place of the script of this name
abbrev pub in_script : List ℕ → ℕ → ℕ → List (List ℕ) → Option (ℕ × List (List ℕ))
in_script name place number [] = None
in_script name place number (l ∷ ls) = if is_heading name (words l) then at_place place (number + 1) ls else in_script name place (number + 1) ls
