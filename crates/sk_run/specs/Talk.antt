-- What a talk comes to: the lines of an input, each answered before the next one is read.
use Rattle.std.specs.Prelude.{◌≡◌, ◌⊎◌, ℕ, ◌+◌, Bool, true, false, ◌||◌, List, [], ◌∷◌, ◌++◌, codes, bytes_eq, if◌then◌else◌, ⊤, Option, Some, None, Result, Ok, Err, IfSome}
use Rattle.sk_run.specs.Base.{lines, words, FaultKind, answer_line, told_line, asked_by, Asked, IsAnswer, epoch_line}
use Rattle.sk_run.specs.Base.{lease_line, LeaseTold, EpochComes, LeaseComes, HandedMap, all_handed, handed_at}
use Rattle.sk_run.specs.Base.{released_answer, LineTaken, kernel_of, EpochTold, Play, LineTold, End, EndsUnwritten}
use Rattle.sk_run.specs.Base.{message_text, Talk, Message}
use Rattle.sk_command.specs.declared.help.TheConstants.{TALK_FORMS}
use Rattle.std.specs.FinMap as map
use Rattle.sk_run.specs.InTurn.{Answered}

-- ---- the lines of a talk

-- whether this word stands alone on a line of these words
abbrev pub is_alone : List ℕ → List (List ℕ) → Bool
is_alone word (w ∷ []) = bytes_eq w word
is_alone word _ = false

-- `end` and `quit` end a talk
abbrev pub is_end : List ℕ → Bool
is_end line = is_alone (codes "end") (words line) || is_alone (codes "quit") (words line)

abbrev pub is_help : List ℕ → Bool
is_help line = is_alone (codes "help") (words line)

-- the lines of a talk are those before the first that ends it
abbrev pub talked : List (List ℕ) → List (List ℕ)
talked [] = []
talked (l ∷ ls) = if is_end l then [] else l ∷ talked ls

-- ---- what they are answered

-- a fault is told with the number of its line; want of memory is not told
abbrev pub fault_line : ℕ → FaultKind → Option (List ℕ)
fault_line line FaultKind.Memory = None
fault_line line kind = Some (message_text (Message.Fault line kind) ++ 10 ∷ [])

-- what is written of a line of this number that is told so, the next event having that number
abbrev pub told_as : ℕ → ℕ → LineTold → Option (List ℕ)
told_as line number (LineTold.Answered a) = Some (codes "event " ++ answer_line number a)
told_as line number (LineTold.Happened t) = Some (codes "event " ++ told_line number t)
told_as line number LineTold.Nothing = Some []
told_as line number (LineTold.Fault kind) = fault_line line kind

-- the number of the event behind it
abbrev pub number_behind : LineTold → ℕ → ℕ
number_behind (LineTold.Answered a) number = number + 1
number_behind (LineTold.Happened t) number = number + 1
number_behind _ number = number

-- the texts that a terminal has released and that were not handed out in this epoch, which are handed out then
abbrev pub HandsOut : ℕ → Talk → Talk → List ℕ → Type 0
HandsOut t old new text =
    (text ≡ released_answer (kernel_of old.play) t (handed_at old.handed t)) × (new ≡ record old { handed = all_handed (kernel_of old.play) t old.handed })

-- none is handed out of an epoch that has begun
abbrev pub handed_behind : EpochTold → HandedMap → HandedMap
handed_behind (EpochTold.Begun n) handed = map.empty
handed_behind _ handed = handed

-- what came of a wish for a new epoch is told
abbrev pub BeginsEpoch : Talk → Talk → List ℕ → Type 0
BeginsEpoch old new text =
    (told : EpochTold) × EpochComes (Some told) old.play new.play × (text ≡ epoch_line told)
    × (new ≡ record { play = new.play; number = old.number; handed = handed_behind told old.handed })

-- what came of a lease is told
abbrev pub TellsLease : ℕ → ℕ → Talk → Talk → List ℕ → Type 0
TellsLease pid count old new text =
    (told : LeaseTold) × LeaseComes (Some told) pid count old.play new.play × (text ≡ lease_line told) × (new ≡ record old { play = new.play })

-- the answer to what is asked, and what is left then; a question changes nothing
abbrev pub Serves : Asked → Talk → Talk → List ℕ → Type 0
Serves (Asked.Question question) old new text = (new ≡ old) × IsAnswer old.play question text
Serves (Asked.Released t) old new text = HandsOut t old new text
Serves Asked.Epoch old new text = BeginsEpoch old new text
Serves (Asked.Lease pid count) old new text = TellsLease pid count old new text

-- A line that asks is answered, any other as what is at play takes it; what is wrong with a line that asks is told with its number.
abbrev pub AnswersAs : Result (Option Asked) FaultKind → ℕ → List ℕ → Talk → Talk → List ℕ → Type 0
AnswersAs (Ok (Some asked)) number line old new text = Serves asked old new text
AnswersAs (Ok None) number line old new text =
    (told : LineTold) × LineTaken told line old.play new.play × (told_as number old.number told ≡ Some text) × (new.number ≡ number_behind told old.number)
    × (new.handed ≡ old.handed)
AnswersAs (Err kind) number line old new text = (new ≡ old) × (text ≡ message_text (Message.Fault number kind) ++ 10 ∷ [])

-- `help` is answered by the lines that a talk takes, between the line `help` and the line `end`
abbrev pub help_answer : List ℕ
help_answer = codes "help\n" ++ TALK_FORMS.now ++ codes "\nend\n"

abbrev pub AnswersBy : Bool → ℕ → List ℕ → Talk → Talk → List ℕ → Type 0
AnswersBy true number line old new text = (new ≡ old) × (text ≡ help_answer)
AnswersBy false number line old new text = AnswersAs (asked_by line) number line old new text

abbrev pub Answers : ℕ → List ℕ → Talk → Talk → List ℕ → Type 0
Answers number line old new text = AnswersBy (is_help line) number line old new text

-- a line can want memory: it asks, or what is at play takes it and it has no fault
abbrev pub WantsMemory : List ℕ → Play → Play → Type 0
WantsMemory line old new = ((asked : Asked) × (asked_by line ≡ Ok (Some asked))) ⊎ LineTaken (LineTold.Fault FaultKind.Memory) line old new

-- ---- a talk

-- a talk that was just begun
abbrev pub begun : Play → Talk
begun play = record { play = play; number = 1; handed = map.empty }

-- the output has grown by the answers to these lines
abbrev pub Talked : Play → List (List ℕ) → Option (List ℕ) → Option (List ℕ) → Type 0
Talked play ls old new = (last : Talk) × Answered Answers ls (begun play) last old new

-- where it ends well, the output has the answers to all lines of the input, where that is known, before the first that ends the talk; where memory ran out or
-- a read failed, to the first of them
abbrev pub EndsTalk : Play → Option (List ℕ) → End → Option (List ℕ) → Option (List ℕ) → Type 0
EndsTalk play input End.Done old new = (ls : List (List ℕ)) × IfSome input (λ bytes. ls ≡ talked (lines bytes)) × Talked play ls old new
EndsTalk play input End.Trouble old new =
    (ls : List (List ℕ)) × IfSome input (λ bytes. (rest : List (List ℕ)) × (talked (lines bytes) ≡ ls ++ rest)) × Talked play ls old new
EndsTalk play input End.OutputRefused old new = ⊤
EndsTalk play input _ old new = ⊥

-- what declarations open is talked to; where they open nothing, the section is wrong
abbrev pub EndsOpened : Option Play → Option (List ℕ) → End → Option (List ℕ) → Option (List ℕ) → Type 0
EndsOpened None input end old new = EndsUnwritten End.Fault end old new
EndsOpened (Some play) input end old new = EndsTalk play input end old new

-- ---- what functions answer, in these words

-- the fault of a line that was told so, want of memory too
abbrev pub fault_of : LineTold → Option FaultKind
fault_of (LineTold.Fault kind) = Some kind
fault_of _ = None

-- whether this is the fault of a line, if it has one
abbrev pub IsFaultAs : Result (Option Asked) FaultKind → List ℕ → Play → Play → Option FaultKind → Type 0
IsFaultAs (Ok (Some asked)) line old new fault = fault ≡ None
IsFaultAs (Ok None) line old new fault = (told : LineTold) × LineTaken told line old new × (fault ≡ fault_of told)
IsFaultAs (Err kind) line old new fault = fault ≡ Some kind

abbrev pub IsFaultBy : Bool → List ℕ → Play → Play → Option FaultKind → Type 0
IsFaultBy true line old new fault = fault ≡ None
IsFaultBy false line old new fault = IsFaultAs (asked_by line) line old new fault

-- the next line was taken from a reader, or there is none
abbrev pub TakesLine : Option (List ℕ) → Option (List ℕ) → List (List ℕ) → Type 0
TakesLine None new ls = ⊤
TakesLine (Some xs) None ls = ⊥
TakesLine (Some xs) (Some ys) [] = lines xs ≡ []
TakesLine (Some xs) (Some ys) (l ∷ ls) = lines xs ≡ l ∷ lines ys
