-- How a line is cut into words.
use Rattle.std.specs.Prelude.{ℕ, Bool, true, false, List, [], ◌∷◌, ◌==◌, ◌||◌, if◌then◌else◌, Option, Some, None}
use Rattle.std.specs.List.{onto_first}
use Rattle.sk_words.specs.declared.line.Place.{Place}
use Rattle.sk_words.specs.declared.line.Place.TheVariants.{Between, Word, Literal, Escape}

-- a space or a tab
abbrev pub is_blank : ℕ → Bool
is_blank b = b == 32 || b == 9

-- The words of a line, or of its rest behind a place in a word, the first then being the rest of that word.
-- A literal begins with a quote that begins its word, and a blank within it parts no words. Behind a backslash a
-- quote doesn't end it. A # that would begin a word begins a comment, which has no words.
abbrev pub words_from : Place → List ℕ → List (List ℕ)
words_from Between [] = []
words_from Between (b ∷ bs) =
    if is_blank b then words_from Between bs
    else if b == 35 then []
    else onto_first b (if b == 34 then words_from Literal bs else words_from Word bs)
words_from Word [] = [] ∷ []
words_from Word (b ∷ bs) = if is_blank b then [] ∷ words_from Between bs else onto_first b (words_from Word bs)
words_from Literal [] = [] ∷ []
words_from Literal (b ∷ bs) = onto_first b (if b == 34 then words_from Word bs else if b == 92 then words_from Escape bs else words_from Literal bs)
words_from Escape [] = [] ∷ []
words_from Escape (b ∷ bs) = onto_first b (words_from Literal bs)

-- the words of a line before its comment; a literal is one word
abbrev pub words : List ℕ → List (List ℕ)
words line = words_from Between line

-- whether a word is a literal without its closing quote
abbrev pub is_open_from : Place → List ℕ → Bool
is_open_from Between [] = false
is_open_from Between (b ∷ bs) = if b == 34 then is_open_from Literal bs else false
is_open_from Word bs = false
is_open_from Literal [] = true
is_open_from Literal (b ∷ bs) = if b == 34 then false else if b == 92 then is_open_from Escape bs else is_open_from Literal bs
is_open_from Escape [] = true
is_open_from Escape (b ∷ bs) = is_open_from Literal bs

-- a word has a literal without its closing quote
abbrev pub is_open : List ℕ → Bool
is_open word = is_open_from Between word

-- whether a quote is among some bytes
abbrev pub has_quote : List ℕ → Bool
has_quote [] = false
has_quote (b ∷ bs) = b == 34 || has_quote bs

-- the first word of a line and the words behind it; none where the line has no word
abbrev pub first_of : List (List ℕ) → Option (List ℕ × List (List ℕ))
first_of [] = None
first_of (w ∷ ws) = Some (w, ws)
