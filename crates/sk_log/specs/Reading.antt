-- The reading of a segment, whose bytes come in pieces.
use Rattle.std.specs.Prelude.{◌≡◌, ℕ, ◌+◌, ◌<◌, ◌≤◌, ◌^◌, List, [], ◌++◌, length, drop}
use Rattle.sk_log.specs.Frame.{frame, IsFrame}
use Rattle.sk_log.specs.Front.{BeginsFrame, IsShort, IsOther}
use Rattle.sk_log.specs.Log.{log, AreFrames, IsLog}
use Rattle.sk_log.specs.Crash.{UsesFront}
use Rattle.sk_log.specs.declared.front.Front.{Front}
use Rattle.sk_log.specs.declared.front.Front.TheVariants.{Whole, Short, Other}
use Rattle.sk_log.specs.declared.recovery.Rest.{Rest}
use Rattle.sk_log.specs.declared.recovery.Rest.TheVariants.{Zeros, Torn, Damaged}
use Rattle.sk_log.specs.declared.recovery.End.{End}

-- How far a reader is: the segment's number, that of the next frame and where it begins, how many bytes came, those of
-- them that are kept and what they begin with. Where no frame can come any more none is kept, and `used` counts those
-- behind the frames up to the last that is not 0.
pub record Reading : Type 0 where
  pub segment : ℕ
  pub number : ℕ
  pub place : ℕ
  pub fed : ℕ
  pub used : ℕ
  pub unread : List ℕ
  pub front : Front

-- What the kept bytes begin with.
abbrev pub KeptBegin : ℕ → ℕ → List ℕ → Front → Type 0
KeptBegin segment number unread (Whole n) = BeginsFrame segment number unread n
KeptBegin segment number unread (Short n) = IsShort segment number unread n
KeptBegin segment number unread Other = unread ≡ []

-- Between calls: the kept bytes came last, and `front` is what they begin with.
pub record IsReading (segment number place fed : ℕ) (unread : List ℕ) (front : Front) : Type 0 where
  pub within : place + length unread ≤ fed
  pub limit : fed ≤ 2 ^ 62
  pub kept : KeptBegin segment number unread front

-- What was kept is kept, unless no frame can come any more.
abbrev pub Settles : ℕ → ℕ → List ℕ → List ℕ → Front → ℕ → Type 0
Settles segment number old new (Whole n) used = BeginsFrame segment number new n × (new ≡ old)
Settles segment number old new (Short n) used = IsShort segment number new n × (new ≡ old)
Settles segment number old new Other used = IsOther segment number old × UsesFront used old × (new ≡ [])

-- What stands behind the frames that were read.
abbrev pub Remains : Reading → List ℕ → Front → Type 0
Remains reading rest (Whole n) = reading.unread ≡ rest
Remains reading rest (Short n) = reading.unread ≡ rest
Remains reading rest Other = IsOther reading.segment reading.number rest × UsesFront reading.used rest

-- These bytes came, and the frames of these payloads were read of them.
pub record HasRead (segment first : ℕ) (payloads : List (List ℕ)) (bytes : List ℕ) (reading : Reading) : Type 0 where
  pub same : reading.segment ≡ segment
  pub frames : AreFrames segment first payloads
  pub number : reading.number ≡ first + length payloads
  pub place : reading.place ≡ length (log segment first payloads)
  pub fed : reading.fed ≡ length bytes
  pub rest : List ℕ
  pub begins : bytes ≡ log segment first payloads ++ rest
  pub remains : Remains reading rest reading.front

-- The next frame has this payload.
pub record IsNext (reading : Reading) (payload : List ℕ) : Type 0 where
  pub made : IsFrame reading.segment reading.number payload
  pub more : List ℕ
  pub begins : reading.unread ≡ frame reading.segment reading.number payload ++ more

-- What stands behind the frames, where so many bytes may have been in flight.
abbrev pub RestIs : ℕ → List ℕ → Rest → Type 0
RestIs in_flight rest Zeros = UsesFront 0 rest
RestIs in_flight rest (Torn n) = UsesFront n rest × (0 < n) × (n ≤ in_flight)
RestIs in_flight rest (Damaged n) = UsesFront n rest × (in_flight < n)

-- The bytes are these frames and no more, and the answer is where they end and what follows.
pub record EndsAt (segment first : ℕ) (payloads : List (List ℕ)) (bytes : List ℕ) (in_flight : ℕ) (end : End) : Type 0 where
  pub log_is : IsLog segment first payloads bytes
  pub number : end.number ≡ first + length payloads
  pub place : end.place ≡ length (log segment first payloads)
  pub rest : RestIs in_flight (drop end.place bytes) end.rest
