-- What a line of a section does to what is at play, and what it is told.
use Rattle.std.specs.Prelude.{◌≡◌, ◌⊎◌, ℕ, List, [], ◌∷◌, Option, Some, None, Result, Ok, Err}
use Rattle.sk_talk.specs.Base.{FaultKind, TellsKind, Call, step_line, world_line, WorldEvent, WorldView, Session}
use Rattle.sk_talk.specs.Base.{AnswerMatches, held_after, Happens, answer_text, told_text, Play, LineTold}

-- of what lines say, that of one line: nothing, or one item
abbrev pub only : {A : Type 0} → Result (List A) FaultKind → Result (Option A) FaultKind
only (Ok []) = Ok None
only (Ok (x ∷ xs)) = Ok (Some x)
only (Err kind) = Err kind

-- A line of a section of steps: its call is answered as the session answers it, of these held guesses. A line that says
-- nothing, or that has a fault, changes nothing; nor does want of memory, which is told only where the line has no fault.
abbrev pub StepsTake : LineTold → Result (Option Call) FaultKind → Session → Session → Type 0
StepsTake (LineTold.Answered a) said old new =
    (c : Call) × (said ≡ Ok (Some c)) × AnswerMatches a c old.holder.held old.holder.kernel new.holder.kernel
    × (new.holder.held ≡ held_after a c old.holder.held)
StepsTake LineTold.Nothing said old new = (said ≡ Ok None) × (new ≡ old)
StepsTake (LineTold.Fault kind) said old new = TellsKind kind said × (new ≡ old)
StepsTake (LineTold.Happened told) said old new = ⊥

-- A line of a section of a world: its event happens. Want of memory may leave a request taken, as the event says.
abbrev pub WorldTakes : LineTold → Result (Option WorldEvent) FaultKind → WorldView → WorldView → Type 0
WorldTakes (LineTold.Happened told) said old new = (e : WorldEvent) × (said ≡ Ok (Some e)) × Happens (Some told) old e new
WorldTakes LineTold.Nothing said old new = (said ≡ Ok None) × (new ≡ old)
WorldTakes (LineTold.Fault kind) said old new =
    TellsKind kind said × ((new ≡ old) ⊎ ((e : WorldEvent) × (said ≡ Ok (Some e)) × Happens None old e new))
WorldTakes (LineTold.Answered a) said old new = ⊥

-- the one or the other, as what is at play is a kernel or a world
abbrev pub LineTaken : LineTold → List ℕ → Play → Play → Type 0
LineTaken t line (Play.Steps old) (Play.Steps new) = StepsTake t (only (step_line [] line)) old new
LineTaken t line (Play.World old) (Play.World new) = WorldTakes t (only (world_line [] line)) old new
LineTaken t line _ _ = ⊥

-- the text of an answer, as a report tells it; of a line that made no call there is none
abbrev pub line_text : LineTold → List ℕ
line_text (LineTold.Answered answer) = answer_text answer
line_text (LineTold.Happened told) = told_text told
line_text _ = []
