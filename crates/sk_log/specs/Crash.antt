-- What a crash leaves of a segment that was written over zeros.
use Rattle.std.specs.Prelude.{◌≡◌, ◌≢◌, ◌⊎◌, ℕ, suc, ◌+◌, ◌<◌, ◌≤◌, List, ◌++◌, length, slice_index, take, drop, bit_and}
use Rattle.sk_log.specs.Log.{log, AreFrames, IsLog}

-- Each byte is at most what was written there: that is so where each byte, or each bit, is 0 or as it was written. Behind
-- what was written are zeros.
abbrev pub IsFaded : List ℕ → List ℕ → Type 0
IsFaded written left = (i : ℕ) → slice_index left i ≤ slice_index written i

-- The first n bytes are as they were written.
abbrev pub Keeps : ℕ → List ℕ → List ℕ → Type 0
Keeps n written left = (i : ℕ) → i < n → slice_index left i ≡ slice_index written i

-- A crash after the first `synced` of the frames were told as synced. The segment is longer than what was written into it.
pub record Crashed (segment number : ℕ) (payloads : List (List ℕ)) (synced : ℕ) (left : List ℕ) : Type 0 where
  pub frames : AreFrames segment number payloads
  pub within : synced ≤ length payloads
  pub room : length (log segment number payloads) ≤ length left
  pub faded : IsFaded (log segment number payloads) left
  pub kept : Keeps (length (log segment number (take synced payloads))) (log segment number payloads) left

-- The byte before n is not 0, and all from n on are.
pub record UsesFront (n : ℕ) (bytes : List ℕ) : Type 0 where
  pub within : n ≤ length bytes
  pub last : (i : ℕ) → n ≡ suc i → slice_index bytes i ≢ 0
  pub zeros : (i : ℕ) → n ≤ i → slice_index bytes i ≡ 0

-- What is read is the first n payloads, for an n that takes in all that were told as synced.
abbrev pub ReadsPrefix : List (List ℕ) → ℕ → List (List ℕ) → Type 0
ReadsPrefix payloads synced read = (n : ℕ) × (synced ≤ n) × (n ≤ length payloads) × (read ≡ take n payloads)

-- Whatever a crash leaves reads as the first payloads, with all that were told as synced.
abbrev pub CrashKeepsPrefix : Type 0
CrashKeepsPrefix = (segment number synced : ℕ) (payloads read : List (List ℕ)) (left : List ℕ)
    → Crashed segment number payloads synced left → IsLog segment number read left → ReadsPrefix payloads synced read

-- Zeros were being written behind the first `kept` bytes, and a crash came.
pub record Blanked (kept : ℕ) (before after : List ℕ) : Type 0 where
  pub room : length before ≤ length after
  pub faded : IsFaded before after
  pub keeps : Keeps kept before after

-- Whatever a crash leaves while zeros are written behind the frames that were read, just these frames are read again.
abbrev pub BlankingKeeps : Type 0
BlankingKeeps = (segment number synced : ℕ) (payloads read : List (List ℕ)) (before after : List ℕ)
    → Crashed segment number payloads synced before → IsLog segment number read before
    → Blanked (length (log segment number read)) before after → IsLog segment number read after

-- What a further crash leaves, as one while a start reads or blanks, where bytes told as synced stay, is what a crash may leave.
abbrev pub CrashesAgain : Type 0
CrashesAgain = (segment number synced : ℕ) (payloads : List (List ℕ)) (before after : List ℕ)
    → Crashed segment number payloads synced before
    → Blanked (length (log segment number (take synced payloads))) before after → Crashed segment number payloads synced after

-- More frames were written behind those that were read, where zeros stood and were told as synced, and a crash came: each
-- byte is as it was before or as it was written.
pub record WrittenOn (segment number : ℕ) (read more : List (List ℕ)) (synced : ℕ) (before left : List ℕ) : Type 0 where
  pub frames : AreFrames segment number (read ++ more)
  pub within : synced ≤ length (read ++ more)
  pub zeros : (i : ℕ) → slice_index before i ≡ slice_index (log segment number read) i
  pub room : length (log segment number (read ++ more)) ≤ length left
  pub old_or_new : (i : ℕ) → (slice_index left i ≡ slice_index before i)
      ⊎ (slice_index left i ≡ slice_index (log segment number (read ++ more)) i)
  pub kept : Keeps (length (log segment number (take synced (read ++ more)))) (log segment number (read ++ more)) left

-- What is left then is what a crash of one log with all these frames may leave.
abbrev pub GoesOn : Type 0
GoesOn = (segment number synced : ℕ) (read more : List (List ℕ)) (before left : List ℕ)
    → WrittenOn segment number read more synced before left → Crashed segment number (read ++ more) synced left

-- Where no more bytes than so many were not told as synced, what a crash leaves behind the frames that are read is no longer.
abbrev pub CrashesAreShort : Type 0
CrashesAreShort = (segment number synced in_flight n : ℕ) (payloads read : List (List ℕ)) (left : List ℕ)
    → Crashed segment number payloads synced left → IsLog segment number read left
    → length (log segment number payloads) ≤ length (log segment number (take synced payloads)) + in_flight
    → UsesFront n (drop (length (log segment number read)) left) → n ≤ in_flight

-- A disk that leaves each byte as it was before, which is 0, or as it was written, leaves at most what was written.
abbrev pub WholeBytesFade : Type 0
WholeBytesFade = (written left : List ℕ)
    → ((i : ℕ) → (slice_index left i ≡ 0) ⊎ (slice_index left i ≡ slice_index written i)) → IsFaded written left

-- A disk that leaves each bit as it was before, which is 0, or as it was written, leaves at most what was written.
abbrev pub SomeBitsFade : Type 0
SomeBitsFade = (written left : List ℕ)
    → ((i : ℕ) → slice_index left i ≡ bit_and (slice_index left i) (slice_index written i)) → IsFaded written left
