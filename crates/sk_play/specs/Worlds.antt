-- The world that a scenario declares, and its events, taken in turn.
use Rattle.std.specs.Prelude.{◌≡◌, List, [], ◌∷◌, Option, Some, None, Result, Ok, Err}
use Rattle.sk_play.specs.Base.{Refusal, ServerView, new_server, EditRefusal, opened, WorldView, joined, EventPost}
use Rattle.sk_play.specs.Base.{WorldEvent, WorldAnswer, Cause, Declared, Remote, WorldTold}
use Rattle.std.specs.FinMap as map
use Rattle.sk_play.specs.Plays.{declared_kernel}

-- ---- the start

-- a server with these files, each put in its turn
abbrev pub seeded : ServerView → List Remote → ServerView
seeded s [] = s
seeded s (file ∷ files) = seeded (record s { files = map.insert s.files file.name file.content }) files

-- the declared kernel, and a server of the declared files
abbrev pub declared_world : Declared → WorldView
declared_world d = joined (opened (declared_kernel d)) (seeded new_server d.remotes)

-- ---- what is told of an event; of want of memory nothing

abbrev pub turn_told : Refusal → Option WorldTold
turn_told Refusal.Memory = None
turn_told why = Some (WorldTold.Refused why)

abbrev pub edit_told : EditRefusal → Option WorldTold
edit_told (EditRefusal.Version actual) = Some WorldTold.OtherVersion
edit_told EditRefusal.Memory = None

abbrev pub cause_told : Cause → Option WorldTold
cause_told (Cause.Turn why) = turn_told why
cause_told Cause.Idle = Some WorldTold.Idle
cause_told (Cause.Edit why) = edit_told why
cause_told Cause.Memory = None

abbrev pub told_of : Result WorldAnswer Cause → Option WorldTold
told_of (Ok answer) = Some (WorldTold.Answered answer)
told_of (Err why) = cause_told why

-- the event happens, which leaves that world, and this is told of it
abbrev pub Happens : Option WorldTold → WorldView → WorldEvent → WorldView → Type 0
Happens told w e new = (came : Result WorldAnswer Cause) × (told_of came ≡ told) × EventPost came w e new
