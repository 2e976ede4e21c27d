-- What the front of some bytes is to a reader who waits for a frame.
use Rattle.std.specs.Prelude.{◌≡◌, ℕ, ◌+◌, ◌<◌, ◌≤◌, ◌^◌, List, ◌++◌, length, take, drop}
use Rattle.sk_log.specs.Frame.{head_of, frame, IsFrame, Ends}
use Rattle.sk_log.specs.declared.front.Front.{Front}
use Rattle.sk_log.specs.declared.front.Front.TheVariants.{Whole, Short, Other}

-- The frame with a payload of n bytes stands at the front.
pub record BeginsFrame (segment number : ℕ) (bytes : List ℕ) (n : ℕ) : Type 0 where
  pub small : IsFrame segment number (take n (drop 24 bytes))
  pub within : 24 + n ≤ length bytes
  pub begins : bytes ≡ frame segment number (take n (drop 24 bytes)) ++ drop (24 + n) bytes

-- These bytes are fewer than n, and a frame that begins with them has at least n: as many as a head, or as a head says.
pub record IsShort (segment number : ℕ) (bytes : List ℕ) (n : ℕ) : Type 0 where
  pub lacking : length bytes < n
  pub wanted : (payload later more : List ℕ) → IsFrame segment number payload
      → bytes ++ later ≡ frame segment number payload ++ more → n ≤ 24 + length payload
  pub no_head : length bytes < 24 → n ≡ 24
  pub head : 24 ≤ length bytes → (len total : ℕ) × (n ≡ 24 + len) × (take 24 bytes ≡ head_of segment number len total)

-- A head stands here that says this segment and number.
pub record SaysNumber (segment : ℕ) (bytes : List ℕ) (number : ℕ) : Type 0 where
  pub small : number < 2 ^ 56
  pub len : ℕ
  pub total : ℕ
  pub head : take 24 bytes ≡ head_of segment number len total

-- Two lists of bytes begin with the same 24 bytes, or with as many as there are.
abbrev pub BeginsAs : List ℕ → List ℕ → Type 0
BeginsAs left bytes = take 24 left ≡ take 24 bytes

-- No frame of this segment and number begins here, whatever follows.
abbrev pub IsOther : ℕ → ℕ → List ℕ → Type 0
IsOther segment number bytes = (later : List ℕ) → Ends segment number (bytes ++ later)

-- What the bytes begin with, as it is answered.
abbrev pub FrontIs : ℕ → ℕ → List ℕ → Front → Type 0
FrontIs segment number bytes (Whole n) = BeginsFrame segment number bytes n
FrontIs segment number bytes (Short n) = IsShort segment number bytes n
FrontIs segment number bytes Other = IsOther segment number bytes
