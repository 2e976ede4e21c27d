-- The words of a line, as a person types them.
use Rattle.std.specs.Prelude.{ℕ, ◌-◌, ◌==◌, if◌then◌else◌, List, [], ◌∷◌, ◌++◌, length, slice_index, take}

-- a word, unless it has no bytes
abbrev pub ended : List ℕ → List (List ℕ)
ended [] = []
ended (b ∷ bs) = (b ∷ bs) ∷ []

-- the words of some bytes, where those of a word stand before them: a space ends a word
abbrev pub words_from : List ℕ → List ℕ → List (List ℕ)
words_from word [] = ended word
words_from word (b ∷ bs) = if b == 32 then ended word ++ words_from [] bs else words_from (word ++ b ∷ []) bs

-- a line without the carriage return at its end
unfoldable pub without_return : List ℕ → List ℕ
without_return line =
    if slice_index line (length line - 1) == 13 then take (length line - 1) line else line

-- the words of a line
abbrev pub line_words : List ℕ → List (List ℕ)
line_words line = words_from [] (without_return line)
