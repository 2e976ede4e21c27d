-- What is listed beside the answer to an event: what its step read and wrote, and the guesses that it depends on.
use Rattle.std.specs.Prelude.{ℕ, List, [], ◌∷◌, ◌++◌, codes, Option, Some, None, Result, Ok, Err}
use Rattle.sk_report.specs.Base.{Entity, Proc, Event, Refusal, KernelView, effect_at, tags_at, footprint_of, appended}
use Rattle.sk_report.specs.Base.{Footprint}
use Rattle.sk_report.specs.Printed.{joined, tags_text, entity_text}

abbrev pub entities_text : List Entity → List ℕ
entities_text es = joined 32 entity_text es

-- a line each
abbrev pub footprint_lines : Footprint → List ℕ → List ℕ
footprint_lines f tags =
    codes "reads " ++ entities_text f.reads ++ codes "\nwrites " ++ entities_text f.writes ++ codes "\ntags " ++ tags_text tags ++ 10 ∷ []

-- the lines of what a step touches; of a refused step none
abbrev pub touched_lines : Result Footprint Refusal → List ℕ → List ℕ
touched_lines (Ok f) tags = footprint_lines f tags
touched_lines (Err why) tags = []

-- of an event that leads from one kernel to another: what the plain kernel reads and writes there, and what the process depends on then,
-- which the step has written; of a decision nothing
abbrev pub event_lines : KernelView → KernelView → Option Event → List ℕ
event_lines old new (Some (Event.Step pid input)) =
    touched_lines (footprint_of (effect_at old (record { pid = pid; input = input; guess = None }))) (tags_at new (Proc pid))
event_lines old new (Some (Event.Guess id pid input)) =
    touched_lines (footprint_of (effect_at old (record { pid = pid; input = input; guess = Some id }))) (tags_at new (Proc pid))
event_lines old new _ = []

-- the lines of whatever event was appended between two kernels
abbrev pub listed : KernelView → KernelView → List ℕ
listed old new = event_lines old new (appended old new)
