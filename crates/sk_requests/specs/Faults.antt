-- What is wrong with bytes that begin no request.
use Rattle.std.specs.Prelude.{◌≡◌, ◌≢◌, ℕ, ◌+◌, ◌<◌, ◌-◌, ◌≤◌, ◌^◌, List, ◌∷◌, ◌++◌, length, slice_index}
use Rattle.sk_requests.specs.Lines.{IsLine, head}
use Rattle.sk_requests.specs.Request.{bulks, AreWords}
use Rattle.sk_requests.specs.declared.limits.Limits.{Limits}
use Rattle.sk_requests.specs.declared.fault.Fault.{Fault}
use Rattle.sk_requests.specs.declared.fault.Fault.TheVariants as faults

-- Behind the head of an array and these of its words, with so many more to come, stands the rest.
pub record InWords (words : List (List ℕ)) (text : List ℕ) (left : ℕ) (rest : List ℕ) : Type 0 where
  pub some : 0 < left
  pub few : length words + left < 2 ^ 31
  pub each : AreWords words
  pub begins : text ≡ head 42 (length words + left) ++ (bulks words ++ rest)

-- No line of this mark and a number up to the limit begins so, whatever follows.
abbrev pub NoHead : ℕ → ℕ → List ℕ → Type 0
NoHead mark limit bytes = (n : ℕ) (later more : List ℕ) → n ≤ limit → bytes ++ later ≡ head mark n ++ more → ⊥

-- No line that is short enough begins so.
abbrev pub NoLine : Limits → List ℕ → Type 0
NoLine limits bytes = (line later more : List ℕ)
    → IsLine line → length line ≤ limits.line → bytes ++ later ≡ line ++ 10 ∷ more → ⊥

-- No end of a line begins so.
abbrev pub NoEnd : List ℕ → Type 0
NoEnd bytes = (later more : List ℕ) → bytes ++ later ≡ 13 ∷ 10 ∷ more → ⊥

-- The fault that these bytes have.
abbrev pub HasFault : Limits → Fault → List ℕ → Type 0
HasFault limits faults.Count bytes = (slice_index bytes 0 ≡ 42) × NoHead 42 (2 ^ 31 - 1) bytes
HasFault limits faults.Line bytes = (slice_index bytes 0 ≢ 42) × NoLine limits bytes
HasFault limits faults.Length bytes = (words : List (List ℕ)) × (left : ℕ) × (rest : List ℕ) × InWords words bytes left rest
    × (slice_index rest 0 ≡ 36) × NoHead 36 (2 ^ 29) rest
HasFault limits (faults.Mark b) bytes = (words : List (List ℕ)) × (left : ℕ) × (rest : List ℕ)
    × InWords words bytes left (b ∷ rest) × (b ≢ 36)
HasFault limits faults.End bytes = (words : List (List ℕ)) × (left : ℕ) × (word rest : List ℕ)
    × InWords words bytes left (head 36 (length word) ++ (word ++ rest)) × (length word ≤ 2 ^ 29) × NoEnd rest
