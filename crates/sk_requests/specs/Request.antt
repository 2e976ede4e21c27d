-- The bytes of a request.
use Rattle.std.specs.Prelude.{◌≡◌, ◌≢◌, ◌⊎◌, ℕ, ◌+◌, ◌<◌, ◌≤◌, ◌^◌, List, [], ◌∷◌, ◌++◌, length, slice_index}
use Rattle.sk_requests.specs.Inline.{line_words}
use Rattle.sk_requests.specs.Lines.{IsLine, head}
use Rattle.sk_requests.specs.declared.limits.Limits.{Limits}

-- a word: `$`, how many bytes it has, its bytes, and the end of a line
abbrev pub bulk : List ℕ → List ℕ
bulk word = head 36 (length word) ++ (word ++ 13 ∷ 10 ∷ [])

-- words, one behind the other
abbrev pub bulks : List (List ℕ) → List ℕ
bulks [] = []
bulks (w ∷ ws) = bulk w ++ bulks ws

-- a request: `*`, how many words it has, and the words
abbrev pub array : List (List ℕ) → List ℕ
array words = head 42 (length words) ++ bulks words

-- No word has more than 512 MB.
abbrev pub AreWords : List (List ℕ) → Type 0
AreWords [] = Unit {0}
AreWords (w ∷ ws) = (length w ≤ 2 ^ 29) × AreWords ws

-- These bytes are the request of these words as clients write it.
pub record IsArray (words : List (List ℕ)) (text : List ℕ) : Type 0 where
  pub few : length words < 2 ^ 31
  pub each : AreWords words
  pub is : text ≡ array words

-- These bytes are a line that a person types: it doesn't begin with `*`, and its words are those between spaces.
pub record IsInline (limits : Limits) (words : List (List ℕ)) (text : List ℕ) : Type 0 where
  pub line : List ℕ
  pub one : IsLine line
  pub short : length line ≤ limits.line
  pub first : slice_index line 0 ≢ 42
  pub is : text ≡ line ++ 10 ∷ []
  pub words_are : words ≡ line_words line

-- These bytes are a request of these words.
abbrev pub IsRequest : Limits → List (List ℕ) → List ℕ → Type 0
IsRequest limits words text = IsArray words text ⊎ IsInline limits words text

-- how many bytes words have
abbrev pub total : List (List ℕ) → ℕ
total [] = 0
total (w ∷ ws) = length w + total ws

-- The words are within the limits.
abbrev pub Fits : Limits → List (List ℕ) → Type 0
Fits limits words = (length words ≤ limits.words) × (total words ≤ limits.bytes)

-- These bytes are a request of these words, within the limits.
abbrev pub IsWithin : Limits → List (List ℕ) → List ℕ → Type 0
IsWithin limits words text = (IsArray words text × Fits limits words) ⊎ IsInline limits words text

-- The words are beyond the limits.
abbrev pub IsTooLarge : Limits → List (List ℕ) → Type 0
IsTooLarge limits words = (limits.words < length words) ⊎ (limits.bytes < total words)

-- No request stands at the front of these bytes, whatever follows.
abbrev pub BeginsNone : Limits → List ℕ → Type 0
BeginsNone limits bytes = (words : List (List ℕ)) (text later more : List ℕ)
    → IsRequest limits words text → bytes ++ later ≡ text ++ more → ⊥
