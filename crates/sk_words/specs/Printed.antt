-- What printed words, lines and items have to be so that they are read again.
use Rattle.std.specs.Prelude.{◌≡◌, ◌<◌, ◌-◌, ℕ, Bool, false, List, [], ◌∷◌, ◌++◌, ◌==◌, ◌||◌, Result, Ok, nat_lt, length, slice_index, flat_map}
use Rattle.std.specs.List.{list_any, list_all}
use Rattle.sk_words.specs.declared.fault.FaultKind.{FaultKind}
use Rattle.sk_words.specs.Words.{words, is_open}

-- numbers below 256
abbrev pub AreBytes : List ℕ → Type 0
AreBytes text = (i : ℕ) → slice_index text i < 256

-- LF or CR
abbrev pub ends_line : ℕ → Bool
ends_line b = b == 10 || b == 13

-- A word: a space behind it ends it and nothing before that does, it is no open literal, and it ends no line.
pub record IsWord (word : List ℕ) : Type 0 where
  pub before_others : (rest : List ℕ) → words (word ++ 32 ∷ rest) ≡ word ∷ words rest
  pub last : words word ≡ word ∷ []
  pub closed : is_open word ≡ false
  pub in_line : list_any ends_line word ≡ false

-- one byte or more, all of them above blanks, line ends, quotes and #: a word for sure
abbrev pub is_bare_word : List ℕ → Bool
is_bare_word [] = false
is_bare_word (b ∷ bs) = list_all (nat_lt 35) (b ∷ bs)

-- A line: no LF is in it, and no CR at its end.
pub record IsLine (line : List ℕ) : Type 0 where
  pub no_feed : list_any (λ b. b == 10) line ≡ false
  pub no_return : (slice_index line (length line - 1) == 13) ≡ false

-- lines below each other, each with LF at its end
abbrev pub lined : List (List ℕ) → List ℕ
lined ls = flat_map (λ l. l ++ 10 ∷ []) ls

-- An item is read again: it is printed as one line, and that line adds it behind those before.
pub record IsReadAgain {A : Type 0} (said : List A → List ℕ → Result (List A) FaultKind) (line_of : A → List ℕ) (x : A) : Type 0 where
  pub line : IsLine (line_of x)
  pub adds : (before : List A) → said before (line_of x) ≡ Ok (before ++ x ∷ [])
