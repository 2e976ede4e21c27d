-- The names of other crates, and of the types of this one, that definitions and clauses cite. Declares nothing.
pub use Rattle.sk_batched.specs.declared.batched.Outcome.{Outcome}
pub use Rattle.sk_batched.specs.declared.batched.Outcome.TheVariants.{Logged, Refused}
pub use Rattle.sk_batched.specs.declared.batched.TheConstants.{MOST_IN_FLIGHT}
pub use Rattle.sk_batched.specs.declared.refusal.Refusal.{Refusal}
pub use Rattle.sk_batched.specs.declared.refusal.Refusal.TheVariants.{Full, LongKey, Memory, Reserved, Stopped, TooMany}
pub use Rattle.sk_batches.specs.Calls.{CutPost, WordPost, append_refused, cause_of as queue_cause_of, new_queue}
pub use Rattle.sk_batches.specs.Frames.{FramePost, frame_refused}
pub use Rattle.sk_batches.specs.Places.{PlacesView}
pub use Rattle.sk_batches.specs.Queue.{QueueView, after_cut, after_take, after_word, cut_due, decided, left}
pub use Rattle.sk_batches.specs.declared.batch.Stage.{Stage}
pub use Rattle.sk_batches.specs.declared.batch.Stage.TheVariants.{Synced}
pub use Rattle.sk_batches.specs.declared.frames.Sealed.{Sealed}
pub use Rattle.sk_batches.specs.declared.queue.Cut.{Cut}
pub use Rattle.sk_batches.specs.declared.queue.Decision.{Decision}
pub use Rattle.sk_batches.specs.declared.refusal.Refusal.{Refusal as Queued}
pub use Rattle.sk_bytes.specs.Calls.{TellsUndone, Unchanged, has_long_key}
pub use Rattle.sk_bytes.specs.Steps.{byte_deed}
pub use Rattle.sk_bytes.specs.Told.{ByteView}
pub use Rattle.sk_bytes.specs.declared.bytes.TheConstants.{KEY_LIMIT}
pub use Rattle.sk_deeds.specs.Deed.{Deed, effect_of}
pub use Rattle.sk_deeds.specs.Told.{Told, told_more, with_told}
pub use Rattle.sk_guesses.specs.Kept.{AreStatuses, none_drawn, struck_with}
pub use Rattle.sk_guesses.specs.Token.{Token}
pub use Rattle.sk_index.specs.Index.{bytes_cmp}
pub use Rattle.sk_outputs.specs.Said.{said_at}
pub use Rattle.sk_record.specs.Machine.{IsPlainRun, released}
pub use Rattle.sk_record.specs.Notes.{Note, has}
pub use Rattle.sk_record.specs.Run.{System}
pub use Rattle.sk_record.specs.Step.{Ask, Done, Refuse, Step, perform}
pub use Rattle.sk_record.specs.Trace.{Commit, Fail, Taken}
pub use Rattle.sk_record.specs.UndoState.{Open, numbers, tags_at}
pub use Rattle.sk_record.specs.declared.status.Status.{Status}
pub use Rattle.sk_record.specs.declared.status.Status.TheVariants.{Committed, Failed}
pub use Rattle.sk_reserved.specs.Keys.{batch_key, is_reserved}
pub use Rattle.sk_slots.specs.Slots.{log_at, look_at}
pub use Rattle.sk_speculator.specs.Calls.{Commits, FailsIn, Takes}
pub use Rattle.sk_speculator.specs.Law.{Call as KernelCall, Does, TakesOut, Tells, events_of}
pub use Rattle.sk_speculator.specs.Parts.{Parts, machine_of, undo_state_of}
pub use Rattle.sk_speculator.specs.WholeStep.{WholeStep}
pub use Rattle.std.specs.FinMap.{FinMap, empty}
pub use Rattle.std.specs.Global.{Vec}
pub use Rattle.std.specs.Int.NonZero.{non_zero_u16_get}
pub use Rattle.std.specs.List.{Contains, list_any}
pub use Rattle.std.specs.Option.{option_map, option_or}
pub use Rattle.std.specs.Vec.{vec_items}
