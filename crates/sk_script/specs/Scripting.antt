-- What a script says: its instructions in order, or its first fault and the line where it stands.
use Rattle.std.specs.Prelude.{◌≡◌, ◌<◌, ◌≤◌, ◌⊎◌, ℕ, ◌+◌, ◌-◌, min, List, [], ◌∷◌, ◌++◌, Option, Some, None, Result, Ok, Err, is_ok, length, take, slice_index, ◌==◌, if◌then◌else◌}
use Rattle.sk_script.specs.Base.{FaultKind, Fault, Instruction, ◌>>=◌, words, label, none_of, read_from, result_ok}
use Rattle.std.specs.Str.Lines as text
use Rattle.sk_script.specs.declared.parse.Line as code
use Rattle.sk_script.specs.declared.parse.Line.TheVariants as cases
use Rattle.sk_script.specs.Instructions.{Labels, place_of, instruction}
use Rattle.sk_script.specs.Script.{INSTRUCTIONS}

-- the label of a word that is a label and a colon
abbrev pub label_in : List ℕ → Option (List ℕ)
label_in word = if slice_index word (length word - 1) == 58 then result_ok (label (take (length word - 1) word)) else None

-- A line is ignored, declares a label, or is to be an instruction.
pub data Line : Type 0 where
  Ignored : Line
  Declares : List ℕ → List (List ℕ) → Line
  Does : List ℕ → List (List ℕ) → Line

abbrev pub declares_or_does : Option (List ℕ) → List ℕ → List (List ℕ) → Line
declares_or_does (Some name) word ws = Declares name ws
declares_or_does None word ws = Does word ws

-- a line without words is ignored
abbrev pub line_of : List (List ℕ) → Line
line_of [] = Ignored
line_of (w ∷ ws) = declares_or_does (label_in w) w ws

-- ---- the labels of all lines

-- a line of a label alone declares it
abbrev pub labels_of : ℕ → Line → Labels
labels_of place (Declares name ws) = if is_ok (none_of ws) then (name, place) ∷ [] else []
labels_of place _ = []

-- the place behind a line; beyond a script's greatest length it does not matter
abbrev pub next_place : ℕ → Line → ℕ
next_place place (Does word ws) = min (place + 1) (INSTRUCTIONS + 1)
next_place place _ = place

unfoldable pub labels_from : ℕ → List (List ℕ) → Labels
labels_from place [] = []
labels_from place (l ∷ ls) = labels_of place (line_of (words l)) ++ labels_from (next_place place (line_of (words l))) ls

-- ---- one line behind others

-- all labels of the script, those declared so far, and the instructions so far
pub record ScriptState : Type 0 where
  pub all : Labels
  pub declared : Labels
  pub instructions : List Instruction

-- a label must not be declared already
abbrev pub undeclared : Result ℕ FaultKind → Result (Unit {0}) FaultKind
undeclared (Ok place) = Err FaultKind.Label
undeclared (Err e) = Ok tt

-- there must be room for one instruction more
abbrev pub room_for : List Instruction → Result (Unit {0}) FaultKind
room_for is = if length is == INSTRUCTIONS then Err FaultKind.TooLong else Ok tt

unfoldable pub added : ScriptState → Line → Result ScriptState FaultKind
added s Ignored = Ok s
added s (Declares name ws) = do
  alone ← none_of ws
  new ← undeclared (place_of s.declared name)
  Ok (record s { declared = s.declared ++ (name, length s.instructions) ∷ [] })
added s (Does word ws) = do
  i ← instruction s.all word ws
  room ← room_for s.instructions
  Ok (record s { instructions = s.instructions ++ i ∷ [] })

abbrev pub script_line : ScriptState → List ℕ → Result ScriptState FaultKind
script_line s line = added s (line_of (words line))

-- ---- a whole script

abbrev pub opening : List (List ℕ) → ScriptState
opening ls = record { all = labels_from 0 ls; declared = []; instructions = [] }

abbrev pub instructions_in : Result ScriptState Fault → Result (List Instruction) Fault
instructions_in (Ok s) = Ok s.instructions
instructions_in (Err f) = Err f

-- the script of some lines, the first of which has this number
abbrev pub script_from : ℕ → List (List ℕ) → Result (List Instruction) Fault
script_from first ls = instructions_in (read_from script_line (opening ls) first ls)

-- the script of a text
abbrev pub script_of : List ℕ → Result (List Instruction) Fault
script_of bytes = script_from 1 (text.lines bytes)

-- ---- what functions answer, in these words

-- Want of memory is told before a fault: at one of the lines before it, or at the first. All labels are collected
-- before the first line is read, so that this line may have a fault of its own.
abbrev pub ComesFirst : ℕ → Fault → Fault → Type 0
ComesFirst first f g = (f.line ≡ first) ⊎ ((first ≤ f.line) × (f.line < g.line))

-- The fault that is told of a script of which this is said, whose first and last lines have these numbers: the first
-- fault, or want of memory before it.
abbrev pub TellsScript : {S : Type 0} → ℕ → ℕ → Fault → Result S Fault → Type 0
TellsScript first last f (Ok s) = (f.kind ≡ FaultKind.Memory) × (first ≤ f.line) × (f.line ≤ last)
TellsScript first last f (Err g) = (f ≡ g) ⊎ ((f.kind ≡ FaultKind.Memory) × ComesFirst first f g)

-- the script, or the fault that is told of it
abbrev pub Parses : Result (List Instruction) Fault → Result (List Instruction) Fault → ℕ → ℕ → Type 0
Parses (Ok s) said first last = said ≡ Ok s
Parses (Err f) said first last = TellsScript first last f said

abbrev pub seen : code.Line → Line
seen cases.Ignored = Ignored
seen (cases.Declares name ws) = Declares name ws
seen (cases.Does word ws) = Does word.now ws

abbrev pub Marks : {E : Type 0} → Result ℕ E → Labels → Labels → ℕ → Line → Type 0
Marks (Ok next) old new place line = (new ≡ old ++ labels_of place line) × (next ≡ next_place place line)
Marks (Err e) old new place line = Unit {0}
