-- The bytes of a segment of a log: frames, one behind the other.
use Rattle.std.specs.Prelude.{◌≡◌, ℕ, suc, ◌+◌, List, [], ◌∷◌, ◌++◌, length}
use Rattle.sk_log.specs.Frame.{frame, IsFrame, Ends}

-- the frames of these payloads, with numbers that rise by one from `number` on
abbrev pub log : ℕ → ℕ → List (List ℕ) → List ℕ
log segment number [] = []
log segment number (p ∷ ps) = frame segment number p ++ log segment (suc number) ps

-- Each of these frames can be made.
abbrev pub AreFrames : ℕ → ℕ → List (List ℕ) → Type 0
AreFrames segment number [] = Unit {0}
AreFrames segment number (p ∷ ps) = IsFrame segment number p × AreFrames segment (suc number) ps

-- The bytes are just these frames, and behind them none with the next number.
pub record IsLog (segment number : ℕ) (payloads : List (List ℕ)) (bytes : List ℕ) : Type 0 where
  pub frames : AreFrames segment number payloads
  pub rest : List ℕ
  pub begins : bytes ≡ log segment number payloads ++ rest
  pub ends : Ends segment (number + length payloads) rest
