-- Where a fault of a line is told.
use Rattle.std.specs.Prelude.{◌≡◌, ◌<◌, ◌⊎◌, ⊤, ℕ, List, [], ◌∷◌, Option, Some, None, length, drop}
use Rattle.sk_faults.specs.Base.{FaultKind, words, first_of, Found, Part}
use Rattle.sk_faults.specs.Found.{found_of, open_at}

-- the word of this index, the first having the index 0
abbrev pub IsWordOf : List ℕ → ℕ → List ℕ → Type 0
IsWordOf line index word = (behind : List (List ℕ)) × (drop index (words line) ≡ word ∷ behind)

-- at the word of this index, or behind the line's last byte where the line has no such word
abbrev pub IsAt : List ℕ → ℕ → ℕ → List ℕ → Type 0
IsAt line index start word =
    IsWordOf line index word
    ⊎ ((drop index (words line) ≡ []) × (start ≡ length line) × (word ≡ []))

-- at some word of the line
abbrev pub IsSomewhere : List ℕ → ℕ → List ℕ → Type 0
IsSomewhere line start word = (index : ℕ) × IsAt line index start word

-- the index of the literal that is open, if one is, and else one behind the first word's
abbrev pub IsWrong : Option Found → ℕ → Type 0
IsWrong (Some f) index = index ≡ f.index
IsWrong None index = 0 < index

-- in a line that asks: at its first literal without a closing quote, and else at a word behind its first
abbrev pub IsAtAsked : List ℕ → ℕ → List ℕ → Type 0
IsAtAsked line start word = (index : ℕ) × IsWrong (open_at 1 (drop 1 (words line))) index × IsAt line index start word

-- at the word that is found, or behind the last byte of a line whose words are as they must be: the last of a script without an end
abbrev pub IsAtFound : Option Found → List ℕ → ℕ → List ℕ → Type 0
IsAtFound (Some f) line start word = IsAt line f.index start word
IsAtFound None line start word = (start ≡ length line) × (word ≡ [])

-- at the word that is found, which there has to be
abbrev pub IsAtWord : Option Found → List ℕ → ℕ → List ℕ → Type 0
IsAtWord (Some f) line start word = IsAt line f.index start word
IsAtWord None line start word = ⊥

-- where a fault of this kind is told of a line that stands in a part
abbrev pub IsTold : FaultKind → Part × List ℕ → ℕ → List ℕ → Type 0
IsTold FaultKind.Word x start word = IsAtFound (found_of x.0 (first_of (words x.1))) x.1 start word
IsTold FaultKind.Operand x start word = IsAtFound (found_of x.0 (first_of (words x.1))) x.1 start word
IsTold FaultKind.Memory x start word = ⊥
IsTold _ x start word = IsSomewhere x.1 start word

-- nothing is told of want of memory, nor of a line that there is not
abbrev pub IsUntold : FaultKind → Option (Part × List ℕ) → Type 0
IsUntold FaultKind.Memory line = ⊤
IsUntold _ line = line ≡ None
