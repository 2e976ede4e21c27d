-- The names of other crates, and of the types of this one, that definitions and clauses cite. Declares nothing.
pub use Rattle.sk_deeds.specs.Deed.{Deed, Entry, again, effect_of}
pub use Rattle.sk_deeds.specs.Told.{Told, told_more, with_told}
pub use Rattle.sk_guesses.specs.Dependents.{AllAlmostExact, AllExact, Covers, Depends, tags_by, with_tags}
pub use Rattle.sk_guesses.specs.Kept.{AreStatuses, HasKeptRoom, KeptView, keys_of, known, none_drawn, one_drawn, struck_with, with_struck}
pub use Rattle.sk_guesses.specs.Opens.{OpenGuess, guess_tags, opens_of}
pub use Rattle.sk_guesses.specs.Token.{Token}
pub use Rattle.sk_ids.specs.declared.guess.TheConstants.{LAST_GUESS}
pub use Rattle.sk_inversion.specs.declared.whole.NoUndo.{NoUndo}
pub use Rattle.sk_inversion.specs.declared.whole.Whole.{Whole}
pub use Rattle.sk_outputs.specs.Said.{HasRoom, Said, first_of, one_code, said_at, waiting_of}
pub use Rattle.sk_record.specs.Effects.{is_in, is_marked, written_value}
pub use Rattle.sk_record.specs.Machine.{Fails, IsPlainRun, Machine, released, with_drawn, with_failure, with_status}
pub use Rattle.sk_record.specs.Merged.{MergedCommits, MergedStands, MergedTakes, Merges}
pub use Rattle.sk_record.specs.Notes.{cut, has, last_tags, noted, without}
pub use Rattle.sk_record.specs.Run.{System}
pub use Rattle.sk_record.specs.Step.{perform}
pub use Rattle.sk_record.specs.Trace.{Commit, Event, Fail, Taken, marks}
pub use Rattle.sk_record.specs.UndoState.{Open, UndoState, not_struck, numbers, still_open, tags_at}
pub use Rattle.sk_record.specs.declared.status.Status.{Status}
pub use Rattle.sk_slots.specs.Counted.{HasPresent}
pub use Rattle.sk_slots.specs.Slot.{SlotView, are_of, goes_unnoted, slot_code}
pub use Rattle.sk_slots.specs.Slots.{AllSettled, IsReady, SettledBut, found, log_at, look_at}
pub use Rattle.sk_speculator.specs.declared.decided.Committed.{Committed}
pub use Rattle.sk_speculator.specs.declared.decided.Failed.{Failed}
pub use Rattle.sk_speculator.specs.declared.decided.Undone.{Undone}
pub use Rattle.sk_speculator.specs.declared.refusal.Refusal.{Refusal}
pub use Rattle.sk_speculator.specs.declared.refusal.Refusal.TheVariants.{Memory, NoNumber, TooMany}
pub use Rattle.sk_speculator.specs.declared.step.Step.{Step}
pub use Rattle.std.specs.Cmp.{IsTotalOrder}
pub use Rattle.std.specs.Coded.{Coded, code_by, coded_list, coded_ℕ, coded×}
pub use Rattle.std.specs.FinMap.{FinMap, IsAntisymmetric, get}
pub use Rattle.std.specs.Int.NonZero.{non_zero_u16_get}
pub use Rattle.std.specs.List.{list_any, slice_get}
pub use Rattle.std.specs.List.{IsDistinct}
pub use Rattle.std.specs.List.Sorted.{IsStrictlySortedBy}
pub use Rattle.std.specs.Map.Iter.{ShowsInOrder, deref}
pub use Rattle.std.specs.Option.{option_copied, option_map}
pub use Rattle.std.specs.Ordering.{eq_by_cmp, nat_cmp}
pub use Rattle.std.specs.Vec.{vec_capacity}
pub use Rattle.std.specs.declared.cmp.Ordering.{Ordering}
