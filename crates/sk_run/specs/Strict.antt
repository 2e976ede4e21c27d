-- What is played where refusals are to be told: the same, and whether one was met is noted.
use Rattle.std.specs.Prelude.{◌≡◌, ℕ, Bool, true, false, ◌||◌, List, Some}
use Rattle.sk_run.specs.Base.{AnswerMatches, answer_line, Call, CallAnswer, Declared, declared_kernel, declared_world}
use Rattle.sk_play.specs.Worlds.{Happens}
use Rattle.sk_run.specs.Base.{held_after, holding, StrictSession, StrictWorld, told_line, WorldEvent, WorldTold}

-- whether an answer is a refusal
abbrev pub is_refusal : CallAnswer → Bool
is_refusal (CallAnswer.Refused why) = true
is_refusal answer = false

-- whether what is told of an event of a world is one: of a turn, or of an edit
abbrev pub is_refusal_told : WorldTold → Bool
is_refusal_told (WorldTold.Refused why) = true
is_refusal_told WorldTold.OtherVersion = true
is_refusal_told told = false

-- what is declared, where no refusal was met yet
abbrev pub declared_strictly : Declared → StrictSession
declared_strictly d = record { session = record { holder = holding (declared_kernel d) }; is_refused = false }

abbrev pub declared_strict_world : Declared → StrictWorld
declared_strict_world d = record { world = declared_world d; is_refused = false }

-- a call is answered as the session answers it, and a refusal is noted
abbrev pub StrictCallTakes : ℕ → Call → StrictSession → StrictSession → List ℕ → Type 0
StrictCallTakes number c old new line =
    (a : CallAnswer) × AnswerMatches a c old.session.holder.held old.session.holder.kernel new.session.holder.kernel
    × (new.session.holder.held ≡ held_after a c old.session.holder.held) × (new.is_refused ≡ (old.is_refused || is_refusal a))
    × (line ≡ answer_line number a)

-- an event of a world happens, and a refusal is noted
abbrev pub StrictEventTakes : ℕ → WorldEvent → StrictWorld → StrictWorld → List ℕ → Type 0
StrictEventTakes number e old new line =
    (t : WorldTold) × Happens (Some t) old.world e new.world × (new.is_refused ≡ (old.is_refused || is_refusal_told t)) × (line ≡ told_line number t)
