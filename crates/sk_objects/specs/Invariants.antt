-- What holds of the parts of a pipe and of a queue of signals between their calls.
use Rattle.std.specs.Prelude.{◌≡◌, ◌≤◌, ◌<◌, ℕ, List, length, All}
use Rattle.sk_objects.specs.Signals.{IsSignal}
use Rattle.sk_objects.specs.declared.pipe.TheConstants.{PIPE_LIMIT}
use Rattle.sk_objects.specs.declared.signals.TheConstants.{SIGNALS_LIMIT}

-- of a pipe whose oldest byte stands in the cell of a number, with so many bytes from there on
pub record IsTidyPipe (cells : List ℕ) (head len : ℕ) : Type 0 where
  -- there is a cell for each byte that may be
  pub count : length cells ≡ PIPE_LIMIT
  -- the oldest byte's cell is one of them
  pub starts : head < PIPE_LIMIT
  -- the bytes are no more than may be
  pub fits : len ≤ PIPE_LIMIT

-- of a queue in a vector with so much room
pub record IsTidyQueue (signals : List ℕ) (room : ℕ) : Type 0 where
  -- the signals are no more than may be
  pub few : length signals ≤ SIGNALS_LIMIT
  -- there is room for as many signals as may be
  pub keeps : SIGNALS_LIMIT ≤ room
  -- each is a signal's number
  pub numbers : All IsSignal signals
