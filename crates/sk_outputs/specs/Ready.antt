-- Which channels have an output to take, and how many outputs each has.
use Rattle.std.specs.Prelude.{◌≡◌, ◌==◌, ℕ, Bool, false, cond, List, [], ◌∷◌, get_or, length}
use Rattle.sk_record.specs.Notes.{has}
use Rattle.sk_outputs.specs.Said.{Said, said_at, is_empty}

-- channels by rising order, each once, and for how many there is room in all
pub record ChannelsView : Type 0 where
  pub channels : List ℕ
  pub places : ℕ

-- whether the first output of a channel is there and depends on nothing
abbrev pub is_ready : {O : Type 0} → Said O → ℕ → Bool
is_ready [] t = false
is_ready (x ∷ xs) t = cond (x.0.0 == t) (is_empty x.1) (is_ready xs t)

-- these are just the channels whose first output depends on nothing
abbrev pub AreReady : {O : Type 0} → Said O → List ℕ → Type 0
AreReady xs channels = (t : ℕ) → has t channels ≡ is_ready xs t

-- these are how many outputs the channels have, from the first on; a channel behind them has none
abbrev pub AreCounted : {O : Type 0} → Said O → List ℕ → Type 0
AreCounted xs counts = (t : ℕ) → get_or counts t 0 ≡ length (said_at xs t)
