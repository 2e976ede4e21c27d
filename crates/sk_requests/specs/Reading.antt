-- The reading of a request, whose bytes come in pieces.
use Rattle.std.specs.Prelude.{◌≡◌, ◌⊎◌, ℕ, ◌+◌, ◌<◌, ◌≤◌, ◌^◌, Bool, true, false, not, ◌==◌, List, [], ◌∷◌, ◌++◌, length, take, map, Result, Ok, Err}
use Rattle.std.specs.Global.{Vec}
use Rattle.sk_requests.specs.Lines.{IsLine, head}
use Rattle.sk_requests.specs.Request.{total, IsArray, IsWithin, IsTooLarge}
use Rattle.sk_requests.specs.Faults.{InWords, HasFault}
use Rattle.sk_requests.specs.declared.limits.Limits.{Limits}
use Rattle.sk_requests.specs.declared.place.Place.{Place}
use Rattle.sk_requests.specs.declared.place.Place.TheVariants as places
use Rattle.sk_requests.specs.declared.reader.Reader.{Reader}
use Rattle.sk_requests.specs.declared.reader.Taken.{Taken}
use Rattle.sk_requests.specs.declared.reader.Found.{Found}
use Rattle.sk_requests.specs.declared.reader.Found.TheVariants as finds
use Rattle.sk_requests.specs.declared.fault.Refusal.{Refusal}
use Rattle.sk_requests.specs.declared.fault.Refusal.TheVariants as refusals

-- the bytes of words
abbrev pub words_of : List (Vec ℕ) → List (List ℕ)
words_of words = map (λ w. w.items) words

-- The words that were read are kept, with so much room for more, or are too many or too long already. The request has so
-- many, and one of this size is next.
pub record Keeps (limits : Limits) (count size : ℕ) (words : List (List ℕ)) (keeping : Bool) (kept : List (List ℕ)) (room : ℕ) : Type 0 where
  pub same : keeping ≡ true → kept ≡ words
  pub within : keeping ≡ true → count ≤ limits.words
  pub adds : keeping ≡ true → room + (total words + size) ≡ limits.bytes
  pub large : keeping ≡ false → (limits.words < count) ⊎ (limits.bytes < total words + size)

-- Behind some words stands the rest, where a word of this size is next.
pub record InArray (reader : Reader) (text : List ℕ) (left size : ℕ) (rest : List ℕ) : Type 0 where
  pub words : List (List ℕ)
  pub array : InWords words text left rest
  pub keeps : Keeps reader.limits (length words + left) size words reader.keeping (words_of reader.words.items) reader.room

-- Behind some words the head of a word stands and the bytes of it that came, which are kept if the words are.
pub record InWord (reader : Reader) (text : List ℕ) (left size : ℕ) (word behind : List ℕ) : Type 0 where
  pub array : InArray reader text left size (head 36 size ++ (word ++ behind))
  pub short : size ≤ 2 ^ 29
  pub part : reader.keeping ≡ true → reader.part.items ≡ word

-- The part that is kept is a line of which the end is still to come.
abbrev pub KeepsLine : Reader → Type 0
KeepsLine reader = IsLine reader.part.items × (length reader.part.items ≤ reader.limits.line)

-- These bytes of a request came, and the reader is at this place in it.
abbrev pub IsAt : Place → Reader → List ℕ → Type 0
IsAt places.Front reader text = (reader.part.items ≡ text) × KeepsLine reader
IsAt (places.Length left) reader text = InArray reader text left 0 reader.part.items × KeepsLine reader
IsAt (places.Word left behind) reader text = (word : List ℕ) × InWord reader text left (length word + behind) word []
IsAt (places.End left) reader text = (word : List ℕ) × InWord reader text left (length word) word (13 ∷ [])

-- whether a reader at this place has some of a request, where these bytes of a line or of a word came
abbrev pub has_some : Place → List ℕ → Bool
has_some places.Front part = not (length part == 0)
has_some (places.Length left) part = true
has_some (places.Word left behind) part = true
has_some (places.End left) part = true

-- These bytes of a request came, and no more.
abbrev pub IsBehind : List ℕ → Reader → Type 0
IsBehind text reader = (16 ≤ reader.limits.line) × IsAt reader.place reader text

-- What was found in a request's bytes.
abbrev pub IsFound : List ℕ → Found → Reader → Type 0
IsFound text finds.Part reader = IsBehind text reader
IsFound text (finds.Request words) reader = IsWithin reader.limits (words_of words.items) text × IsBehind [] reader
IsFound text finds.TooLarge reader = (words : List (List ℕ)) × IsArray words text × IsTooLarge reader.limits words × IsBehind [] reader

-- What a call leaves and answers, where these bytes of a request came before it.
abbrev pub Reads : List ℕ → List ℕ → Result Taken Refusal → Reader → Type 0
Reads text bytes (Ok taken) reader = (taken.count ≤ length bytes) × (0 < length bytes → 0 < taken.count)
    × IsFound (text ++ take taken.count bytes) taken.found reader
Reads text bytes (Err (refusals.Fault fault)) reader = HasFault reader.limits fault (text ++ bytes) × IsBehind text reader
Reads text bytes (Err refusals.Memory) reader = IsBehind text reader
