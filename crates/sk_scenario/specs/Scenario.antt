-- What a whole scenario says: its declarations, with the scripts between them, and the section below.
use Rattle.std.specs.Prelude.{◌≡◌, ◌≤◌, ◌<◌, ◌⊎◌, ℕ, ◌+◌, ◌-◌, Bool, true, false, not, List, [], ◌∷◌, ◌++◌, length, drop, Option, Some, None, Result, Ok, Err, codes, bytes_eq, if◌then◌else◌}
use Rattle.sk_scenario.specs.declared.scenario.Section.{Section}
use Rattle.sk_scenario.specs.declared.scenario.Scenario.{Scenario}
use Rattle.sk_scenario.specs.Base.{list_all, lines, FaultKind, Fault, ◌>>=◌, words, first_of, none_of, at, read_from}
use Rattle.sk_scenario.specs.Base.{Tells, Instruction, script_from, Heading, Said, Call, WorldEvent}
use Rattle.sk_scenario.specs.Base.{Event, trace_from}
use Rattle.sk_scenario.specs.Declarations.{Declared, nothing_declared, script, line_said}
use Rattle.sk_scenario.specs.Calls.{step_line}
use Rattle.sk_scenario.specs.WorldEvents.{world_line}

-- what a section says: the calls to make, what is to happen in a world, or what happened
pub data SectionView : Type 0 where
  Steps : List Call → SectionView
  World : List WorldEvent → SectionView
  Trace : List Event → SectionView

-- what a scenario says
pub record ScenarioView : Type 0 where
  pub declarations : Declared
  pub section : SectionView

abbrev pub section_view : Section → SectionView
section_view (Section.Steps steps) = Steps steps
section_view (Section.World events) = World events
section_view (Section.Trace trace) = Trace trace.events

abbrev pub scenario_view : Scenario → ScenarioView
scenario_view s = record { declarations = s.declarations; section = section_view s.section }

-- a script that is being read: its name, the number of its first line, and its lines so far
pub record Begun : Type 0 where
  pub name : List ℕ
  pub first : ℕ
  pub lines : List (List ℕ)

-- whether the first word of a line is `end`
abbrev pub is_end_of : List (List ℕ) → Bool
is_end_of [] = false
is_end_of (w ∷ ws) = bytes_eq w (codes "end")

abbrev pub is_end : List ℕ → Bool
is_end line = is_end_of (words line)

-- what is declared with a script that ends with this line, behind whose first word nothing stands
abbrev pub ended : Declared → List ℕ → List Instruction → List ℕ → Result Declared FaultKind
ended d name instructions line = none_of (drop 1 (words line)) >>= λ u. script d name instructions

-- what is said where a script's lines are sound
abbrev pub with_script : Result (List Instruction) Fault → (List Instruction → Result ScenarioView Fault) → Result ScenarioView Fault
with_script (Ok instructions) rest = rest instructions
with_script (Err f) rest = Err f

-- the line of this number ends the script
abbrev pub script_ends : Declared → Begun → ℕ → List ℕ → (Declared → Result ScenarioView Fault) → Result ScenarioView Fault
script_ends d b number line rest = with_script (script_from b.first b.lines) (λ is. at number (ended d b.name is line) rest)

-- no line ends the script: that is a fault of the last line, behind any other
abbrev pub script_unended : Begun → ℕ → Result ScenarioView Fault
script_unended b last = with_script (script_from b.first b.lines) (λ is. Err (record { line = last; kind = FaultKind.Word }))

-- the declarations with a section, where its lines are sound
abbrev pub with_section : {A : Type 0} → Declared → (A → SectionView) → Result A Fault → Result ScenarioView Fault
with_section d section (Ok said) = Ok (record { declarations = d; section = section said })
with_section d section (Err f) = Err f

-- the section below a heading
abbrev pub section_from : Declared → Heading → ℕ → List (List ℕ) → Result ScenarioView Fault
section_from d Heading.Steps first ls = with_section d Steps (read_from step_line [] first ls)
section_from d Heading.World first ls = with_section d World (read_from world_line [] first ls)
section_from d Heading.Trace first ls = with_section d Trace (trace_from first ls)

-- what a line said, of which the next line has this number, and what the lines behind it say then
abbrev pub goes_on : Said → Declared → ℕ → List (List ℕ) → (Option Begun → Result ScenarioView Fault) → Result ScenarioView Fault
goes_on Said.Declared d next ls rest = rest None
goes_on (Said.Script name) d next ls rest = rest (Some (record { name = name; first = next; lines = [] }))
goes_on (Said.Heading heading) d next ls rest = section_from d heading next ls

-- the script that is being read, with one line more
abbrev pub more : Begun → List ℕ → Begun
more b line = record b { lines = b.lines ++ line ∷ [] }

-- the lines in turn, the first of which has this number; without a section there are no steps
abbrev pub scenario_from : Declared → Option Begun → ℕ → List (List ℕ) → Result ScenarioView Fault
scenario_from d None number [] = Ok (record { declarations = d; section = Steps [] })
scenario_from d (Some b) number [] = script_unended b (number - 1)
scenario_from d None number (l ∷ ls) = at number (line_said d (first_of (words l))) (λ x. goes_on x.0 x.1 (number + 1) ls (λ begun. scenario_from x.1 begun (number + 1) ls))
scenario_from d (Some b) number (l ∷ ls) =
    if is_end l then script_ends d b number l (λ e. scenario_from e None (number + 1) ls) else scenario_from d (Some (more b l)) (number + 1) ls

-- the scenario of a text
abbrev pub scenario_of : List ℕ → Result ScenarioView Fault
scenario_of text = scenario_from nothing_declared None 1 (lines text)

-- ---- the fault that is told

-- whether the first word of a line is `script`
abbrev pub begins_script_of : List (List ℕ) → Bool
begins_script_of [] = false
begins_script_of (w ∷ ws) = bytes_eq (codes "script") w

abbrev pub begins_script : List ℕ → Bool
begins_script line = begins_script_of (words line)

-- none of the lines ends a script
abbrev pub NoEnd : List (List ℕ) → Type 0
NoEnd ls = list_all (λ line. not (is_end line)) ls ≡ true

-- A line of a script whose fault is told behind something else: its first, before which all its labels are collected,
-- or its last where none ends it, whose fault that is.
abbrev pub IsEdge : ℕ → ℕ → List (List ℕ) → ℕ → Type 0
IsEdge first last ls n = (n ≡ first) ⊎ ((first ≤ n) × (n ≡ last) × NoEnd ls)

-- a line of a script in a text whose fault is told behind something else; behind the heading of the script these lines stand
pub record IsScriptEdge (text : List (List ℕ)) (n : ℕ) : Type 0 where
  pub before : List (List ℕ)
  pub heading : List ℕ
  pub behind : List (List ℕ)
  pub cut : text ≡ before ++ heading ∷ behind
  pub begins : begins_script heading ≡ true
  pub edge : IsEdge (length before + 2) (length text) behind n

-- Want of memory is told before a fault: at one of the lines before it, or at its own line where that is an edge.
abbrev pub ComesBefore : (ℕ → Type 0) → Fault → Fault → Type 0
ComesBefore Edge f g = (f.line < g.line) ⊎ ((f.line ≡ g.line) × Edge f.line)

-- The fault that is told of lines of which this is said, the first and the last of them having these numbers: the
-- first fault, or want of memory before it.
abbrev pub TellsUpTo : {S : Type 0} → (ℕ → Type 0) → ℕ → ℕ → Fault → Result S Fault → Type 0
TellsUpTo Edge first last f (Ok s) = (f.kind ≡ FaultKind.Memory) × (first ≤ f.line) × (f.line ≤ last)
TellsUpTo Edge first last f (Err g) = (f ≡ g) ⊎ ((f.kind ≡ FaultKind.Memory) × (first ≤ f.line) × ComesBefore Edge f g)

-- the scenario of these lines, or the fault that is told of it
abbrev pub Says : Result Scenario Fault → Result ScenarioView Fault → List (List ℕ) → Type 0
Says (Ok s) said text = said ≡ Ok (scenario_view s)
Says (Err f) said text = TellsUpTo (IsScriptEdge text) 1 (length text) f said

-- ---- what functions answer, in these words

-- what is said of a script's lines, or a fault is told of it
abbrev pub Goes : Result (Unit {0}) Fault → Result ScenarioView Fault → Result ScenarioView Fault → ℕ → ℕ → List (List ℕ) → Type 0
Goes (Ok u) said rest first last ls = said ≡ rest
Goes (Err f) said rest first last ls = TellsUpTo (IsEdge first last ls) first last f said

-- the edges of what a line began
abbrev pub IsEdgeOf : Said → ℕ → ℕ → List (List ℕ) → ℕ → Type 0
IsEdgeOf s first last ls n = (name : List ℕ) × (s ≡ Said.Script name) × IsEdge first last ls n

-- what is said of what a line began, where a section ends the scenario
abbrev pub GoesOn : Result (Option Section) Fault → Said → Result ScenarioView Fault → Declared → Result ScenarioView Fault → ℕ → ℕ → List (List ℕ) → Type 0
GoesOn (Ok None) s said d rest first last ls = said ≡ rest
GoesOn (Ok (Some section)) s said d rest first last ls = said ≡ Ok (record { declarations = d; section = section_view section })
GoesOn (Err f) s said d rest first last ls = TellsUpTo (IsEdgeOf s first last ls) first last f said

-- a section, or a fault is told
abbrev pub SaysSection : Result Section Fault → Result ScenarioView Fault → Declared → ℕ → ℕ → Type 0
SaysSection (Ok section) said d first last = said ≡ Ok (record { declarations = d; section = section_view section })
SaysSection (Err f) said d first last = Tells first last f said

-- the first lines are the last of the second
abbrev pub AreLeft : List (List ℕ) → List (List ℕ) → Type 0
AreLeft left ls = (before : List (List ℕ)) × (ls ≡ before ++ left)
