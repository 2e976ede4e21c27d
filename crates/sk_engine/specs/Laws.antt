-- What holds of all hosts, whatever the engine does with their tries and whenever.
use Rattle.std.specs.Prelude.{◌≡◌, ◌<◌, ◌≤◌, ◌≢◌, ℕ, List, Some}
use Rattle.sk_engine.specs.declared.answer.RoundAnswer.TheVariants.{Seen}
use Rattle.sk_engine.specs.declared.request.Round.{Round}
use Rattle.sk_engine.specs.declared.request.Told.TheVariants.{Still}
use Rattle.sk_engine.specs.Told.{round_told}
use Rattle.sk_engine.specs.Moves.{Has, World, new_world, batch_of, owner_of, whole, ServesFrom, HasDecided, WasLost, Move, Reads, Happens, Runs}

-- bytes stand under this number, and the snapshot or the log has them then and later
pub record Stands (w m : World) (number : ℕ) : Type 0 where
  pub value : List ℕ
  pub here : whole w number ≡ Some value
  pub later : whole m number ≡ Some value

-- What a leadership decided, it and all before it: the same bytes stand under each number for ever, in the log or in the snapshot.
abbrev pub DecidedStays : Type 0
DecidedStays = (before after : List Move) (w m : World) (leadership gap last number : ℕ) → Runs new_world before w
    → HasDecided w leadership gap last → Runs w after m → 0 < number → number ≤ last → Stands w m number

-- From the gap on they are what this leadership sent.
abbrev pub DecidedIsSent : Type 0
DecidedIsSent = (moves : List Move) (w : World) (leadership gap last number : ℕ) → Runs new_world moves w
    → HasDecided w leadership gap last → gap ≤ number → number ≤ last
    → (value : List ℕ) × (whole w number ≡ Some value) × Has (record { batch = batch_of leadership number; value = value }) w.sent

-- Whoever reads the log later finds all that was decided: his gap is behind it.
abbrev pub DecidedIsRead : Type 0
DecidedIsRead = (before after : List Move) (w m n : World) (leadership gap last other found : ℕ) → Runs new_world before w
    → HasDecided w leadership gap last → Runs w after m → Happens m (Reads other found) n → last < found

-- a number has bytes, and so have all before it: a host that read the log then would find them
pub record IsFound (w : World) (number : ℕ) (value : List ℕ) : Type 0 where
  pub here : whole w number ≡ Some value
  pub before : (i : ℕ) → 0 < i → i ≤ number → (other : List ℕ) × (whole w i ≡ Some other)

-- Once a batch was told as lost, nothing that its leadership sent under its number or behind it is ever found.
abbrev pub LostIsNeverFound : Type 0
LostIsNeverFound = (before after : List Move) (w m : World) (leadership lost number : ℕ) (value : List ℕ) → Runs new_world before w
    → WasLost w (batch_of leadership lost) → Runs w after m → lost ≤ number → IsFound m number value
    → owner_of value ≢ leadership

-- Where a round tells a leadership that it still holds, all that any other has decided until then it found as it began.
abbrev pub StillHasAll : Type 0
StillHasAll = (moves : List Move) (w : World) (round : Round) (gap other from last : ℕ) → Runs new_world moves w
    → ServesFrom w round.leadership gap → round_told round (Seen w.engine.leader) ≡ Still round.number
    → HasDecided w other from last → from ≤ last → other ≢ round.leadership → last < gap
