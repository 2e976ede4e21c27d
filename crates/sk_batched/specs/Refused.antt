-- Why a step is not taken or logged.
use Rattle.std.specs.Prelude.{ℕ, Option, Some, None, if◌then◌else◌}
use Rattle.sk_batched.specs.Base.{Vec, WholeStep, has_long_key, Queued, Refusal, LongKey, Reserved, Stopped, Full}
use Rattle.sk_batched.specs.Base.{Memory}
use Rattle.sk_batches.specs.declared.refusal.Refusal.TheVariants as queued
use Rattle.sk_batched.specs.Keys.{has_reserved_key}

-- what the queue says against one record more
abbrev pub refusal_of : Queued → Refusal
refusal_of queued.Stopped = Stopped
refusal_of queued.Full = Full
refusal_of other = Memory

-- the cause that a call answers first: want of memory only where there is no other
abbrev pub cause_of : Refusal → Option Refusal
cause_of Memory = None
cause_of why = Some why

-- the first cause against a step, or none
abbrev pub step_refused : {V O : Type 0} → WholeStep (Vec ℕ) V O → Option Refusal
step_refused step =
    if has_long_key step then Some LongKey
    else if has_reserved_key step then Some Reserved
    else None
