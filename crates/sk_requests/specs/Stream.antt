-- A stream of bytes, whatever way it was cut into pieces.
use Rattle.std.specs.Prelude.{◌≡◌, ℕ, ◌<◌, ◌≤◌, Bool, true, false, List, [], ◌∷◌, ◌++◌, length, take, Option, Some, None, Result, Ok, Err}
use Rattle.sk_requests.specs.Request.{IsArray, IsRequest, IsWithin, IsTooLarge}
use Rattle.sk_requests.specs.Faults.{HasFault}
use Rattle.sk_requests.specs.Reading.{IsBehind, words_of}
use Rattle.sk_requests.specs.declared.limits.Limits.{Limits}
use Rattle.sk_requests.specs.declared.reader.Reader.{Reader}
use Rattle.sk_requests.specs.declared.reader.Taken.{Taken}
use Rattle.sk_requests.specs.declared.reader.Found.{Found}
use Rattle.sk_requests.specs.declared.reader.Found.TheVariants as finds
use Rattle.sk_requests.specs.declared.fault.Refusal.{Refusal}
use Rattle.sk_requests.specs.declared.fault.Refusal.TheVariants as refusals

-- What is told of the bytes of a request: its words, or none where they are beyond the limits.
abbrev pub IsTold : Limits → Option (List (List ℕ)) → List ℕ → Type 0
IsTold limits (Some words) text = IsWithin limits words text
IsTold limits None text = (words : List (List ℕ)) × IsArray words text × IsTooLarge limits words

-- The stream is requests of which this is told, and then the rest.
abbrev pub Splits : Limits → List (Option (List (List ℕ))) → List ℕ → List ℕ → Type 0
Splits limits [] rest stream = stream ≡ rest
Splits limits (t ∷ ts) rest stream = (text more : List ℕ) × IsTold limits t text × (stream ≡ text ++ more) × Splits limits ts rest more

-- No request is whole at the front of these bytes.
abbrev pub IsPart : Limits → List ℕ → Type 0
IsPart limits bytes = (words : List (List ℕ)) (text more : List ℕ) → IsRequest limits words text → bytes ≡ text ++ more → ⊥

-- The stream came, this was told of it, and the reader is behind the rest.
pub record HasRead (limits : Limits) (told : List (Option (List (List ℕ)))) (stream : List ℕ) (reader : Reader) : Type 0 where
  pub same : reader.limits ≡ limits
  pub rest : List ℕ
  pub splits : Splits limits told rest stream
  pub behind : IsBehind rest reader

-- The stream came, and what was found now is the last that was told of it.
abbrev pub HasFound : Limits → List (Option (List (List ℕ))) → List ℕ → Found → Reader → Type 0
HasFound limits told stream finds.Part reader = HasRead limits told stream reader
HasFound limits told stream (finds.Request words) reader = HasRead limits (told ++ Some (words_of words.items) ∷ []) stream reader
HasFound limits told stream finds.TooLarge reader = HasRead limits (told ++ None ∷ []) stream reader

-- What a call with these bytes leaves and answers: so many bytes came, and this was found. Where a fault is told, it stands
-- behind what was told. After a refusal no more came.
abbrev pub ReadsOn : Limits → List (Option (List (List ℕ))) → List ℕ → List ℕ → Result Taken Refusal → Reader → Type 0
ReadsOn limits told stream bytes (Ok taken) reader = (taken.count ≤ length bytes) × (0 < length bytes → 0 < taken.count)
    × HasFound limits told (stream ++ take taken.count bytes) taken.found reader
ReadsOn limits told stream bytes (Err (refusals.Fault fault)) reader = HasRead limits told stream reader
    × ((rest : List ℕ) × Splits limits told rest (stream ++ bytes) × HasFault limits fault rest)
ReadsOn limits told stream bytes (Err refusals.Memory) reader = HasRead limits told stream reader

-- Whether the stream, of which this was told, ends within a request.
abbrev pub EndsWithin : Limits → List (Option (List (List ℕ))) → List ℕ → Bool → Type 0
EndsWithin limits told stream false = Splits limits told [] stream
EndsWithin limits told stream true = (rest : List ℕ) × Splits limits told rest stream × (0 < length rest) × IsPart limits rest
