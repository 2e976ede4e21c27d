-- How entities and what they have are printed.
use Rattle.std.specs.Prelude.{ℕ, Bool, List, [], ◌∷◌, ◌++◌, flat_map, codes, decimal, length, Option, Some, None, if◌then◌else◌}
use Rattle.sk_report.specs.Base.{Entity, ContentView, Value, View, Process, Val, held, val_word, spelled, pid_word}
use Rattle.sk_report.specs.Base.{object_word}

-- what is missing
abbrev pub dash : List ℕ
dash = codes "-"

-- items with a separator between them, or a dash
abbrev pub joined : {A : Type 0} → ℕ → (A → List ℕ) → List A → List ℕ
joined separator spelling [] = dash
joined separator spelling (first ∷ others) = spelling first ++ flat_map (λ other. separator ∷ spelling other) others

-- guesses by rising number
abbrev pub tags_text : List ℕ → List ℕ
tags_text ids = joined 44 decimal ids

-- a number that may be missing
abbrev pub option_text : Option ℕ → List ℕ
option_text None = dash
option_text (Some number) = decimal number

-- the eight registers
unfoldable pub registers_text : List Val → List ℕ
registers_text vals = joined 32 (λ number. val_word (held vals number)) (0 ∷ 1 ∷ 2 ∷ 3 ∷ 4 ∷ 5 ∷ 6 ∷ 7 ∷ [])

abbrev pub yes_or_no : Bool → List ℕ
yes_or_no b = if b then codes "yes" else codes "no"

-- where a process stands, and what it holds
unfoldable pub held_text : Process → List ℕ
held_text p = codes "at " ++ decimal p.place ++ codes " regs " ++ registers_text p.registers ++ codes " buf " ++ spelled p.buffer

-- what it has made, its handler, and whether it has ended
unfoldable pub made_text : Process → List ℕ
made_text p =
    codes "kids " ++ decimal p.children ++ codes " objs " ++ decimal p.objects ++ codes " handler " ++ option_text p.handler
    ++ codes " saved " ++ option_text p.saved ++ codes " ended " ++ yes_or_no p.ended

-- a process, behind its identifier
abbrev pub process_text : Process → List ℕ
process_text p = held_text p ++ 32 ∷ made_text p

-- a content: its version and its bytes
abbrev pub content_text : ContentView → List ℕ
content_text content = decimal content.version ++ 32 ∷ spelled content.bytes

-- a value, behind its entity; signals from the front; of a directory its names are entities of their own
abbrev pub value_text : Value → List ℕ
value_text (Value.File bytes) = codes "file " ++ decimal (length bytes) ++ 32 ∷ spelled bytes
value_text Value.Dir = codes "dir"
value_text (Value.Link object) = object_word object
value_text (Value.Pipe pipe) = codes "pipe " ++ (if pipe.shut then codes "shut " else codes "open ") ++ spelled pipe.bytes
value_text (Value.Signals signals) = joined 44 decimal signals
value_text (Value.Exit status) = option_text status
value_text (Value.Copy content) = content_text content

-- what an entity has, behind its name, as a kernel shows it
abbrev pub view_text : View → List ℕ
view_text (View.Process p) = process_text p.now
view_text (View.Value v) = value_text v.now

-- an entity
abbrev pub entity_text : Entity → List ℕ
entity_text (Entity.Proc pid) = codes "proc " ++ pid_word pid
entity_text (Entity.Sig pid) = codes "sig " ++ pid_word pid
entity_text (Entity.Exit pid) = codes "exit " ++ pid_word pid
entity_text (Entity.Obj id) = codes "obj " ++ object_word id
entity_text (Entity.Link d name) = codes "link " ++ object_word d ++ 32 ∷ name
entity_text (Entity.Copy name) = codes "copy " ++ name
