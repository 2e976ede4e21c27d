-- A frame of a log: a head of 24 bytes, and a payload.
use Rattle.std.specs.Prelude.{◌≡◌, ℕ, zero, suc, ◌+◌, ◌-◌, ◌/◌, ◌%◌, ◌<◌, ◌^◌, List, [], ◌∷◌, ◌++◌, length, sum}

-- the last n digits of x in base 128, the lowest first, each with its top bit set: none of these bytes is 0
unfoldable pub digits : ℕ → ℕ → List ℕ
digits zero x = []
digits (suc n) x = (128 + x % 128) ∷ digits n (x / 128)

-- the number of the segment, that of the frame, how long the payload is, and the sum of its bytes
abbrev pub front : ℕ → ℕ → ℕ → ℕ → List ℕ
front segment number len total =
    digits 4 segment ++ (digits 8 number ++ (digits 4 len ++ digits 6 total))

-- these, and behind them a number that falls where their own sum rises
unfoldable pub head_of : ℕ → ℕ → ℕ → ℕ → List ℕ
head_of segment number len total =
    let bytes = front segment number len total in
    bytes ++ digits 2 (5632 - sum bytes)

-- the head of a payload
abbrev pub head : ℕ → ℕ → List ℕ → List ℕ
head segment number payload = head_of segment number (length payload) (sum payload)

-- the head, and the payload as it is
abbrev pub frame : ℕ → ℕ → List ℕ → List ℕ
frame segment number payload = head segment number payload ++ payload

-- A frame can be made of these: its head says all of them.
pub record IsFrame (segment number : ℕ) (payload : List ℕ) : Type 0 where
  pub segment_small : segment < 2 ^ 28
  pub number_small : number < 2 ^ 56
  pub short : length payload < 2 ^ 28
  pub light : sum payload < 2 ^ 42

-- No frame of this segment and number begins here.
abbrev pub Ends : ℕ → ℕ → List ℕ → Type 0
Ends segment number bytes =
    (payload more : List ℕ) → IsFrame segment number payload → bytes ≡ frame segment number payload ++ more → ⊥
