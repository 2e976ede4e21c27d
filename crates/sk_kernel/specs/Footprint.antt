-- What a step touches, and what it appends to the trace.
use Rattle.std.specs.Prelude.{map, length, slice_get, Option, Result, Ok, Err}
use Rattle.sk_kernel.specs.Base.{Effect, Entity, EntityState, Event, Saying, Refusal, Footprint}
use Rattle.sk_kernel.specs.Kernel.{KernelView}

-- the entities that an accepted step reads, in the order in which it looks at them, and those that it writes
abbrev pub footprint_of : Result (Effect Entity EntityState Saying) Refusal → Result Footprint Refusal
footprint_of (Ok f) = Ok (record { reads = map (λ r. r.0) f.read; writes = map (λ w. w.0) f.written })
footprint_of (Err why) = Err why

-- the event that was appended between two kernels, if one was
abbrev pub appended : KernelView → KernelView → Option Event
appended old new = slice_get new.trace (length old.trace)
