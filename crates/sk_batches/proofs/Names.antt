-- What the proofs of this crate cite from outside of them, passed on from one place. Declares nothing.
pub use Rattle.std.proofs.Common.{Some, Bool, subst, inr, Ok, ◌∷◌, ◌&&◌, inl, Err, zero, ◌≡◌, rules, ◌-◌, ◌+◌, Option}
pub use Rattle.std.proofs.Common.{arith, map, List, ap, ◌++◌, length, append_assoc, ◌||◌, ℕ, true, ltb, drop, sym}
pub use Rattle.std.proofs.Common.{None, suc, ◌≤◌, take, false, ◌<◌, refl, [], Result, ◌∙◌, not, cond, flat_map}
pub use Rattle.std.proofs.Math.Numerals.{suc-eq-add-one}
pub use Rattle.std.proofs.Math.Seq.{drop-length, take-append-add, drop-append-add, drop-append_seam, drop-cons}
pub use Rattle.std.proofs.Math.Seq.{take-append_seam}
pub use Rattle.std.proofs.lemmas.Bool.{and_from, true≢false, or_right, lt-ltb, false_from_ne_true, or_left}
pub use Rattle.std.proofs.lemmas.Bool.{false≢true, cases_order, eqb-true, eq-eqb, and_parts, ne_eqb, and_right}
pub use Rattle.std.proofs.lemmas.Bool.{or_parts}
pub use Rattle.std.proofs.lemmas.Bool.Decides.{nat_tests}
pub use Rattle.std.proofs.lemmas.Fn.{filter_same}
pub use Rattle.std.proofs.lemmas.List.{length-take-le, drop_all, drop-drop, length-drop, take_all, length-map}
pub use Rattle.std.proofs.lemmas.List.{take-append-drop, length-append, take_rest, append-nil}
pub use Rattle.std.proofs.lemmas.List.Elements.{All-contains, All-from_recursion, filter-append}
pub use Rattle.std.proofs.lemmas.List.Filters.{sum_by-filter_both}
pub use Rattle.std.proofs.lemmas.List.Sums.{sum_by-cons, sum_by-append, sum_by_push}
pub use Rattle.std.proofs.lemmas.Option.{none-some, same_Some}
pub use Rattle.std.specs.List.{filter, remove, Contains, AllByRecursion, list_any, sum_by}
pub use Rattle.std.specs.Prelude.{count_by, slice_index_or, slice_set, ◌⊎◌, nat_le, nat_lt, ◌==◌}
pub use Rattle.std.specs.Result.{IsErrAnd}
pub use Rattle.sk_batches.specs.Calls.{cause_of, take_refused}
pub use Rattle.sk_batches.specs.Dense.{IsRange, is_off, AreDense, IsAtCut, IsBehind, IsBetween, FramesAreDense}
pub use Rattle.sk_batches.specs.Dense.{CutsARange}
pub use Rattle.sk_batches.specs.Frames.{FramePost, frame_refused, sealed_of, next_payload}
pub use Rattle.sk_batches.specs.Places.{PlacesView}
pub use Rattle.sk_batches.specs.Queue.{kept_of, last_in, awaits, decided, first_taken, next_records, undecided}
pub use Rattle.sk_batches.specs.Queue.{is_kept, QueueView, tell, is_sent, send, is_failed, is_refused, past}
pub use Rattle.sk_batches.specs.Queue.{kept_records, is_decided, decision_of, first_failed, is_taken, left, cut_off}
pub use Rattle.sk_batches.specs.Records.{kept, is_struck, but_last, payload, RecordView}
pub use Rattle.sk_batches.specs.Runs.{Story, story_after, Decides, Runs, Syncs, KeepsTheRest, synced_after, Stops}
pub use Rattle.sk_batches.specs.Runs.{Fails, NoneIsKept, struck_of, Appends, records_in, Rise}
pub use Rattle.sk_batches.specs.Runs.{behind_of, has, LogsWhatIsSynced, Happens, Call, with_oldest, LosesNothing}
pub use Rattle.sk_batches.specs.Runs.{Withdraws, Takes, DecidesInOrder, struck, with_decided, Cuts}
pub use Rattle.sk_batches.specs.declared.batch.Batch.{Batch}
pub use Rattle.sk_batches.specs.declared.batch.Stage.{Stage}
pub use Rattle.sk_batches.specs.declared.batch.Stage.TheVariants.{Kept, Failed, Refused, Sent, Synced}
pub use Rattle.sk_batches.specs.declared.frames.Sealed.{Sealed}
pub use Rattle.sk_batches.specs.declared.queue.Cut.{Cut}
pub use Rattle.sk_batches.specs.declared.queue.Decision.{Decision}
pub use Rattle.sk_batches.specs.declared.refusal.Refusal.{Refusal}
pub use Rattle.sk_log.specs.Frame.{frame}
pub use Rattle.sk_log.specs.declared.frame.TheConstants.{NUMBER_LIMIT}
pub use borrow.Rule.Slice.PartMut.{post_of, put_mid, mid_of, Post-is, put_same}
