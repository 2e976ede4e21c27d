-- What the proofs of this crate cite from outside of them, passed on from one place. Declares nothing.
pub use Rattle.std.proofs.lemmas.Option.{none-some}
pub use Rattle.std.proofs.Math.Bool.{or-false, and-false}
pub use Rattle.std.proofs.Common.{Some, Bool, subst, inr, zero, rules, arith, ap, ◌*◌, ◌++◌, length, is_err, suc, ◌≤◌}
pub use Rattle.std.proofs.Common.{take, false, refl, [], ◌%◌, map, Ok, ◌∷◌, ◌&&◌, Err, inl, ◌≡◌, ◌+◌, Option, List}
pub use Rattle.std.proofs.Common.{◌||◌, ℕ, true, drop, sym, None, ◌<◌, Result, ◌∙◌, not, cond}
pub use Rattle.std.proofs.Math.Numerals.{suc-eq-add-one}
pub use Rattle.std.proofs.Math.Seq.{drop-cons}
pub use Rattle.std.proofs.lemmas.Bool.{or_from, or_parts, eqb-true, ltb-false, true≢false, or_cases, false_from_ne_true}
pub use Rattle.std.proofs.lemmas.Bool.{leb-false, eq-eqb, ne_eqb, or_right}
pub use Rattle.std.proofs.lemmas.List.{drop_all, map-append, length-append, append-nil}
pub use Rattle.std.proofs.lemmas.List.Folds.{list_any-append}
pub use Rattle.std.specs.FinMap.{get-empty, empty}
pub use Rattle.std.specs.Global.{Vec}
pub use Rattle.std.specs.List.{filter, list_any, remove, Contains}
pub use Rattle.std.specs.Ordering.{eq_by_cmp}
pub use Rattle.std.specs.Prelude.{◌↔◌, OnErr, OnOk, ◌==◌, slice_index_or, ◌⊎◌, if◌then◌else◌, nat_le, nat_lt}
pub use Rattle.std.specs.Vec.{vec_items}
pub use Rattle.std.specs.declared.cmp.Ordering.{Ordering}
pub use Rattle.sk_batched.specs.Batched.{in_batch, Draws, opening, BatchedView, capped, is_full, IsStill, Begins, IsNew}
pub use Rattle.sk_batched.specs.Batched.{MayBegin}
pub use Rattle.sk_batched.specs.InStep.{IsInStep, IsRow, not_yet, AreInRow, tokens_of, alone, open_if, notes_by}
pub use Rattle.sk_batched.specs.InStep.{open_numbers}
pub use Rattle.sk_batched.specs.Keys.{has_reserved_key}
pub use Rattle.sk_batched.specs.Refused.{step_refused}
pub use Rattle.sk_batched.specs.Runs.{Opens, Runs, kernel_calls, Plain, in_batches, LogsStep, Steps, IsRefused, Hears}
pub use Rattle.sk_batched.specs.Runs.{opens_first, LetsOut, Cuts, DrawsGuess, BatchesAsPlain, Decides, BatchStep, Stops}
pub use Rattle.sk_batched.specs.Runs.{Call, Sends, InBatch, looking_at}
pub use Rattle.sk_batched.specs.declared.refusal.Refusal.TheVariants.{Reserved, LongKey}
pub use Rattle.sk_batches.specs.Calls.{WordPost, CutPost, new_queue}
pub use Rattle.sk_batches.specs.Frames.{FramePost}
pub use Rattle.sk_batches.specs.Places.{PlacesView}
pub use Rattle.sk_batches.specs.Queue.{decided, open_batch, is_kept, is_decided, decision_of, left, after_word, awaits}
pub use Rattle.sk_batches.specs.Queue.{QueueView, tell, send, after_take, after_cut, cut_off}
pub use Rattle.sk_batches.specs.Records.{kept}
pub use Rattle.sk_batches.specs.declared.batch.Batch.{Batch}
pub use Rattle.sk_batches.specs.declared.batch.Stage.{Stage}
pub use Rattle.sk_batches.specs.declared.batch.Stage.TheVariants.{Synced, Kept, Sent}
pub use Rattle.sk_batches.specs.declared.frames.Sealed.{Sealed}
pub use Rattle.sk_batches.specs.declared.queue.Cut.{Cut}
pub use Rattle.sk_batches.specs.declared.queue.Decision.{Decision}
pub use Rattle.sk_batches.specs.declared.queue.Decision.TheVariants.{Logged, Refused}
pub use Rattle.sk_batches.specs.declared.refusal.Refusal.{Refusal}
pub use Rattle.sk_batches.specs.declared.refusal.Refusal.TheVariants.{NoCut, Stopped}
pub use Rattle.sk_bytes.proofs.Told.{bytes_total, bytes_exact}
pub use Rattle.sk_bytes.specs.Calls.{has_long_key, Unchanged, is_long}
pub use Rattle.sk_bytes.specs.Steps.{byte_deed}
pub use Rattle.sk_bytes.specs.Told.{ByteView}
pub use Rattle.sk_deeds.proofs.Runs.{performs}
pub use Rattle.sk_deeds.specs.Deed.{Deed, again, effect_of}
pub use Rattle.sk_deeds.specs.Told.{told_more, with_told, Told}
pub use Rattle.sk_guesses.specs.Kept.{struck_with, none_drawn, KeptView, with_struck, AreStatuses}
pub use Rattle.sk_guesses.specs.Opens.{open_in}
pub use Rattle.sk_guesses.specs.Token.{Token}
pub use Rattle.sk_index.proofs.Strings.{same_bytes}
pub use Rattle.sk_index.specs.Index.{bytes_cmp}
pub use Rattle.sk_outputs.specs.Said.{said_at}
pub use Rattle.sk_record.specs.Effects.{written_value, is_in}
pub use Rattle.sk_record.specs.Machine.{with_drawn, Fails, Machine, IsPlainRun, with_failure, with_status}
pub use Rattle.sk_record.specs.Merged.{MergedCommits, Merges, MergedTakes}
pub use Rattle.sk_record.specs.Notes.{committed, unwound, last_tags, has, Note, noted, without, cut}
pub use Rattle.sk_record.specs.Run.{marked_effect, System}
pub use Rattle.sk_record.specs.Step.{with_read, Step, Effect, Ask, perform}
pub use Rattle.sk_record.specs.Trace.{Taken, Event, marks, Commit, Fail}
pub use Rattle.sk_record.specs.UndoState.{step_tags, still_open, UndoState, is_tag, numbers, not_struck, tags_at, Open}
pub use Rattle.sk_record.specs.declared.status.Status.{Status}
pub use Rattle.sk_record.specs.declared.status.Status.TheVariants.{Committed, Undecided, Committed as StatusCommitted}
pub use Rattle.sk_reserved.specs.Keys.{is_reserved, batch_key}
pub use Rattle.sk_slots.specs.Slots.{look_at, log_at}
pub use Rattle.sk_speculator.proofs.Law.{runs_whole}
pub use Rattle.sk_speculator.specs.Calls.{next_of, FailsIn, Commits, drawn_by, Takes, Refuses}
pub use Rattle.sk_speculator.specs.Law.{Call as KernelCall, Hands, Calls, Happens, Returns, Does, IsFirst, Tells}
pub use Rattle.sk_speculator.specs.Law.{events_of}
pub use Rattle.sk_speculator.specs.Parts.{IsSame, Parts, machine_of, undo_state_of}
pub use Rattle.sk_speculator.specs.WholeStep.{WholeStep}
pub use Rattle.std.proofs.lemmas.Map.Made.{Contains-tail}
pub use Rattle.std.proofs.lemmas.Result.{on_err_weaker}
