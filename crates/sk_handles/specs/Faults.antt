-- What is told of the fault of a text.
use Rattle.std.specs.Prelude.{◌≡◌, ◌⊎◌, ℕ, ◌+◌, min, List, length, Option, Some, None, Result, Ok, Err}
use Rattle.sk_handles.specs.Base.{Fault, FaultKind, ScenarioView, Says, Scenario, Part, Declarations, IsTold, line_at}
use Rattle.sk_handles.specs.Base.{ABSENT, FAULT, MEMORY, FaultPlace, Told}
use Rattle.sk_handles.specs.Told.{just, kind_number, put, texted}

-- a fault at a word of so many bytes, which has so many bytes before it in its line
abbrev pub placed : Fault → ℕ → ℕ → FaultPlace
placed f start len = record { line = f.line; column = min (start + 1) 18446744073709551615; len = len; kind = kind_number f.kind }

-- the word that is told of a line, which stands in a part
abbrev pub IsPlaced : Fault → Option (Part × List ℕ) → FaultPlace → Type 0
IsPlaced f None place = place ≡ placed f 0 0
IsPlaced f (Some x) place = (start : ℕ) × (word : List ℕ) × IsTold f.kind x start word × (place ≡ placed f start (length word))

-- want of memory is told alone, any other fault with its line, its place, and some text, which is in the room
abbrev pub TellsFound : Fault → List (List ℕ) → Told → FaultPlace → FaultPlace → List ℕ → List ℕ → Type 0
TellsFound f ls told old new room_old room_new =
    ((f.kind ≡ FaultKind.Memory) × (told ≡ just MEMORY 0) × (new ≡ old) × (room_new ≡ room_old))
    ⊎ ((f.kind ≡ FaultKind.Memory → ⊥) × IsPlaced f (line_at Declarations f.line ls) new
    × ((text : List ℕ) × (told ≡ texted (just FAULT f.line) text) × (room_new ≡ put text room_old)))

abbrev pub TellsRead : Result Scenario Fault → List (List ℕ) → Told → FaultPlace → FaultPlace → List ℕ → List ℕ → Type 0
TellsRead (Ok s) ls told old new room_old room_new = (told ≡ just ABSENT 0) × (new ≡ old) × (room_new ≡ room_old)
TellsRead (Err f) ls told old new room_old room_new = TellsFound f ls told old new room_old room_new

-- a text of these lines is read, as it says or until memory runs out, and its first fault is told, or that it has none
abbrev pub TellsFault : Result ScenarioView Fault → List (List ℕ) → Told → FaultPlace → FaultPlace → List ℕ → List ℕ → Type 0
TellsFault said ls told old new room_old room_new =
    (read : Result Scenario Fault) × Says read said ls × TellsRead read ls told old new room_old room_new
