-- Why calls of the layers below were refused, as it is told here.
use Rattle.sk_durable.specs.Base.{Channels, Batches, Refusal, Full, NoTicket, Memory, NotDone}
use Rattle.sk_channels.specs.declared.refusal.Refusal.TheVariants as channels
use Rattle.sk_batched.specs.declared.refusal.Refusal.TheVariants as batches

abbrev pub channel_refused : Channels → Refusal
channel_refused channels.NoTicket = NoTicket
channel_refused channels.Full = Full
channel_refused channels.Memory = Memory

-- no work that comes to a kernel names a reserved key
abbrev pub step_refused : Batches → NotDone
step_refused batches.LongKey = NotDone.LongKey
step_refused batches.Reserved = NotDone.LongKey
step_refused batches.Stopped = NotDone.Stopped
step_refused batches.Full = NotDone.Full
step_refused batches.TooMany = NotDone.TooMany
step_refused batches.Memory = NotDone.Memory
