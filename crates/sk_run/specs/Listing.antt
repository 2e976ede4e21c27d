-- What is listed beside the answer to an event, as it is foreseen.
use Rattle.std.specs.Prelude.{ℕ, Bool, true, false, List, [], length, slice_get, Option, Some, None, option_and_then}
use Rattle.sk_run.specs.Base.{result_ok, Proc, Input, Event, KernelView, effect_at, tags_at, footprint_of, Footprint}
use Rattle.sk_run.specs.Base.{footprint_lines, listed, Foreseen}

-- nothing, or what was appended between two kernels
abbrev pub beside : Bool → KernelView → KernelView → List ℕ
beside false old new = []
beside true old new = listed old new

-- what a step would touch, where it is not refused
abbrev pub touched : KernelView → ℕ × Input → Option Footprint
touched k step = result_ok (footprint_of (effect_at k (record { pid = step.0; input = step.1; guess = None })))

abbrev pub foreseen : KernelView → Option (ℕ × Input) → Foreseen
foreseen k upcoming = record { place = length k.trace; footprint = option_and_then (touched k) upcoming }

-- the lines of a footprint, where the event took a step
abbrev pub lines_of : Option Footprint → KernelView → Option Event → List ℕ
lines_of None k e = []
lines_of (Some f) k (Some (Event.Step pid input)) = footprint_lines f (tags_at k (Proc pid))
lines_of (Some f) k (Some (Event.Guess id pid input)) = footprint_lines f (tags_at k (Proc pid))
lines_of _ k e = []

abbrev pub foreseen_lines : Foreseen → KernelView → List ℕ
foreseen_lines f k = lines_of f.footprint k (slice_get k.trace f.place)
