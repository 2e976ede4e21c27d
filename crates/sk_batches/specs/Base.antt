-- The names of other crates, and of the types of this one, that definitions and clauses cite. Declares nothing.
pub use Rattle.sk_batches.specs.declared.batch.Batch.{Batch}
pub use Rattle.sk_batches.specs.declared.batch.Stage.{Stage}
pub use Rattle.sk_batches.specs.declared.batch.Stage.TheVariants.{Failed, Kept, Refused, Sent, Synced}
pub use Rattle.sk_batches.specs.declared.frames.Sealed.{Sealed}
pub use Rattle.sk_batches.specs.declared.places.Place.{Place}
pub use Rattle.sk_batches.specs.declared.queue.Cut.{Cut}
pub use Rattle.sk_batches.specs.declared.queue.Decision.{Decision}
pub use Rattle.sk_batches.specs.declared.queue.Taken.{Taken}
pub use Rattle.sk_batches.specs.declared.refusal.Refusal.{Refusal}
pub use Rattle.sk_batches.specs.declared.refusal.Refusal.TheVariants.{Busy, Full, Memory, NoCut, NoNumber, Nothing, Short, Stopped, Unknown}
pub use Rattle.sk_log.specs.Frame.{frame}
pub use Rattle.sk_log.specs.declared.frame.TheConstants.{NUMBER_LIMIT}
pub use Rattle.std.specs.Int.NonZero.{non_zero_u16_get}
pub use Rattle.std.specs.List.{AllByRecursion, filter, list_any, sum_by}
pub use Rattle.std.specs.Option.{option_or}
