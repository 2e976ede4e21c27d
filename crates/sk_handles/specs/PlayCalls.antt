-- What the calls of what is at play do, and what they are told.
use Rattle.std.specs.Prelude.{◌≡◌, ◌⊎◌, ℕ, List, Option, Some, None}
use Rattle.sk_handles.specs.Base.{EpochTold, EpochComes, LineTaken, line_text, LineTold, Play, DONE}
use Rattle.sk_handles.specs.Base.{MEMORY, REFUSED, Told}
use Rattle.sk_handles.specs.Told.{just, texted, told_of_line, put}

-- what a line is told, with its text in the room; without memory for the text it has none, and the room is as it was
abbrev pub TellsLine : Told → LineTold → List ℕ → List ℕ → Type 0
TellsLine told t old new =
    ((told ≡ texted (told_of_line t) (line_text t)) × (new ≡ put (line_text t) old)) ⊎ ((told ≡ told_of_line t) × (new ≡ old))

-- a line is taken: what it does, and what it is told, with its text in the room
abbrev pub TakesLine : List ℕ → List ℕ → List ℕ → Told → Play → Play → Type 0
TakesLine line room_old room_new told old new = (t : LineTold) × LineTaken t line old new × TellsLine told t room_old room_new

-- how many events are let go, or the number of why no epoch begins
abbrev pub epoch_told : Option EpochTold → Told
epoch_told (Some (EpochTold.Begun n)) = just DONE n
epoch_told (Some (EpochTold.Undecided n)) = just REFUSED 1
epoch_told (Some (EpochTold.Pending n)) = just REFUSED 2
epoch_told None = just MEMORY 0

-- a new epoch of a play is told as it comes, or why none begins
abbrev pub EndsEpoch : Told → Play → Play → Type 0
EndsEpoch told old new = (t : Option EpochTold) × (told ≡ epoch_told t) × EpochComes t old new
