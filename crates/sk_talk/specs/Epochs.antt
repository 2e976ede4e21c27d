-- What comes of a wish for a new epoch of what is at play.
use Rattle.std.specs.Prelude.{◌≡◌, ℕ, length, Option, Some, None, Result, Ok, Err}
use Rattle.sk_talk.specs.Base.{TerminalMap, TraceView, EpochRefusal, BeginsPost, WorldEpochPost, EpochTold, Play}

-- that of the kernel, with no token held, or of the world's desk; what was done and released is handed out
abbrev pub EpochBegins : Result (TraceView × TerminalMap) EpochRefusal → Play → Play → Type 0
EpochBegins result (Play.Steps old) (Play.Steps new) = BeginsPost result old.holder new.holder
EpochBegins result (Play.World old) (Play.World new) = WorldEpochPost result old new
EpochBegins result _ _ = ⊥

-- of a kernel so many guesses are undecided, in a world so many requests have no reply
abbrev pub undecided_told : Play → ℕ → EpochTold
undecided_told (Play.Steps s) n = EpochTold.Undecided n
undecided_told (Play.World w) n = EpochTold.Pending n

-- how many events are let go, or why no epoch begins; want of memory is not told
abbrev pub epoch_told : Play → Result (TraceView × TerminalMap) EpochRefusal → Option EpochTold
epoch_told play (Ok left) = Some (EpochTold.Begun (length left.0.events))
epoch_told play (Err (EpochRefusal.Undecided n)) = Some (undecided_told play n)
epoch_told play (Err EpochRefusal.Memory) = None

-- a new epoch begins, or is refused, and that is told
abbrev pub EpochComes : Option EpochTold → Play → Play → Type 0
EpochComes told old new = (result : Result (TraceView × TerminalMap) EpochRefusal) × EpochBegins result old new × (told ≡ epoch_told old result)
