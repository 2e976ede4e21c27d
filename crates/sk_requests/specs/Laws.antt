-- What holds of all bytes.
use Rattle.std.specs.Prelude.{◌≡◌, ℕ, List, [], ◌∷◌, ◌++◌, Option}
use Rattle.sk_requests.specs.Request.{IsRequest, BeginsNone}
use Rattle.sk_requests.specs.Faults.{HasFault}
use Rattle.sk_requests.specs.Reading.{IsBehind}
use Rattle.sk_requests.specs.Stream.{IsTold, Splits, IsPart, HasRead}
use Rattle.sk_requests.specs.declared.limits.Limits.{Limits}
use Rattle.sk_requests.specs.declared.fault.Fault.{Fault}
use Rattle.sk_requests.specs.declared.reader.Reader.{Reader}

-- One request stands at the front of bytes at most.
abbrev pub RequestsAreApart : Type 0
RequestsAreApart = (limits : Limits) (us ws : List (List ℕ)) (text text' x y : List ℕ)
    → IsRequest limits us text → IsRequest limits ws text' → text ++ x ≡ text' ++ y → (us ≡ ws) × (text ≡ text') × (x ≡ y)

-- Bytes that have a fault begin no request, whatever follows.
abbrev pub FaultsAreFinal : Type 0
FaultsAreFinal = (limits : Limits) (fault : Fault) (bytes : List ℕ) → HasFault limits fault bytes → BeginsNone limits bytes

-- Bytes that have a fault have no other one, whatever follows.
abbrev pub FaultsAreApart : Type 0
FaultsAreApart = (limits : Limits) (fault other : Fault) (bytes later : List ℕ)
    → HasFault limits fault bytes → HasFault limits other (bytes ++ later) → fault ≡ other

-- What a reader has read of a request, and told nothing of yet, is no whole request.
abbrev pub PartsAreNone : Type 0
PartsAreNone = (text : List ℕ) (reader : Reader) → IsBehind text reader → IsPart reader.limits text

-- A stream has one reading: the same is told of it, and the same rest stays, whatever way it was cut.
abbrev pub StreamsReadOnce : Type 0
StreamsReadOnce = (limits : Limits) (ts us : List (Option (List (List ℕ)))) (rest rest' stream : List ℕ)
    → Splits limits ts rest stream → IsPart limits rest → Splits limits us rest' stream → IsPart limits rest' → (ts ≡ us) × (rest ≡ rest')

-- More bytes come behind the rest, and are a request with it.
abbrev pub StreamsGoOn : Type 0
StreamsGoOn = (limits : Limits) (ts : List (Option (List (List ℕ)))) (t : Option (List (List ℕ))) (rest stream more : List ℕ)
    → Splits limits ts rest stream
    → Splits limits ts (rest ++ more) (stream ++ more) × (IsTold limits t (rest ++ more) → Splits limits (ts ++ t ∷ []) [] (stream ++ more))

-- Two readers are told the same of a stream, whatever way it was cut for each.
abbrev pub CutsDontMatter : Type 0
CutsDontMatter = (limits : Limits) (told other : List (Option (List (List ℕ)))) (stream : List ℕ) (reader reader' : Reader)
    → HasRead limits told stream reader → HasRead limits other stream reader' → told ≡ other
