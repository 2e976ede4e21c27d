-- What calls are told: the number of an answer, that of what it names, and the length of a text.
use Rattle.std.specs.Prelude.{ℕ, List, ◌++◌, take, drop, length, Result, Ok, Err}
use Rattle.sk_handles.specs.Base.{FaultKind, refusal_number, ServerAnswer, Turn, Given, WorldAnswer, CallAnswer}
use Rattle.sk_handles.specs.Base.{WorldTold, STEPPED, GUESSED, DONE, GONE, NO_TOKEN, REFUSED, FAULT, MEMORY, NOTHING}
use Rattle.sk_handles.specs.Base.{OPENED, ASKED, YES, NO, COPY, DROPPED, COMMITTED, FAILED, TAKEN, FORGOTTEN, EDITED}
use Rattle.sk_handles.specs.Base.{IDLE, OTHER_VERSION, Told, LineTold, Unopened, Answer}

-- an answer without a text, and with one
abbrev pub just : ℕ → ℕ → Told
just answer number = record { answer = answer; number = number; bytes = 0 }

abbrev pub texted : Told → List ℕ → Told
texted told text = record told { bytes = length text }

-- what a call is told that may be refused
abbrev pub told_by : {A E : Type 0} → (A → Told) → (E → Told) → Result A E → Told
told_by done refused (Ok it) = done it
told_by done refused (Err why) = refused why

-- ---- faults

abbrev pub kind_number : FaultKind → ℕ
kind_number FaultKind.Word = 1
kind_number FaultKind.Operand = 2
kind_number FaultKind.Label = 3
kind_number FaultKind.TooLong = 4
kind_number FaultKind.Memory = 5

-- want of memory is told without a number
abbrev pub faulty : FaultKind → ℕ → Told
faulty FaultKind.Memory number = just MEMORY 0
faulty other number = just FAULT number

-- ---- what is told of a line

abbrev pub told_of_answer : CallAnswer → Told
told_of_answer CallAnswer.Stepped = just STEPPED 0
told_of_answer (CallAnswer.Guessed id) = just GUESSED id
told_of_answer CallAnswer.Done = just DONE 0
told_of_answer CallAnswer.Gone = just GONE 0
told_of_answer CallAnswer.NoToken = just NO_TOKEN 0
told_of_answer (CallAnswer.Refused why) = just REFUSED (refusal_number why)

abbrev pub told_of_turn : Turn → Told
told_of_turn Turn.Stepped = just STEPPED 0
told_of_turn (Turn.Guessed id) = just GUESSED id
told_of_turn (Turn.Asked request) = just ASKED request

-- what a reply is told as: of a content its version
abbrev pub told_of_reply : ServerAnswer → Told
told_of_reply Answer.Yes = just YES 0
told_of_reply (Answer.No content) = just NO content.version
told_of_reply (Answer.Copy content) = just COPY content.version
told_of_reply Answer.Dropped = just DROPPED 0

abbrev pub told_of_given : Given → Told
told_of_given (Given.Committed id) = just COMMITTED id
told_of_given (Given.Failed id) = just FAILED id
told_of_given (Given.Gone id) = just GONE id
told_of_given (Given.Taken request) = just TAKEN request
told_of_given (Given.Forgotten request) = just FORGOTTEN request

abbrev pub told_of_world : WorldAnswer → Told
told_of_world (WorldAnswer.Turn turn) = told_of_turn turn
told_of_world (WorldAnswer.Served reply) = told_of_reply reply.answer
told_of_world (WorldAnswer.Given given) = told_of_given given
told_of_world (WorldAnswer.Edited version) = just EDITED version

abbrev pub told_of_event : WorldTold → Told
told_of_event (WorldTold.Answered answer) = told_of_world answer
told_of_event WorldTold.Idle = just IDLE 0
told_of_event (WorldTold.Refused why) = just REFUSED (refusal_number why)
told_of_event WorldTold.OtherVersion = just OTHER_VERSION 0

abbrev pub told_of_line : LineTold → Told
told_of_line (LineTold.Answered answer) = told_of_answer answer
told_of_line (LineTold.Happened told) = told_of_event told
told_of_line LineTold.Nothing = just NOTHING 0
told_of_line (LineTold.Fault kind) = faulty kind (kind_number kind)

-- ---- what is told of a text that is to be opened

abbrev pub opened : Told
opened = just OPENED 0

abbrev pub unopened : Unopened → Told
unopened (Unopened.Fault f) = faulty f.kind f.line
unopened Unopened.Section = just FAULT 0
unopened Unopened.Memory = just MEMORY 0

-- ---- the caller's room

-- a room with the first bytes of a text over its own, as far as both reach
abbrev pub put : List ℕ → List ℕ → List ℕ
put text room = take (length room) text ++ drop (length text) room
