-- What the proofs of this crate cite from outside of them, passed on from one place. Declares nothing.
pub use Rattle.std.proofs.Common.{Some, subst, inr, Ok, ◌∷◌, inl, zero, ◌≡◌, ◌+◌, Option, arith, map, List, get_or, ap}
pub use Rattle.std.proofs.Common.{◌++◌, length, ℕ, true, sym, None, suc, ◌≤◌, take, false, ◌<◌, refl, [], ◌∙◌, cond}
pub use Rattle.std.proofs.lemmas.Bool.{eqb-false, ltb-false, true≢false, or_right, or_cases, or_left, or_parts}
pub use Rattle.std.proofs.lemmas.Bool.{false≢true, eqb-true, ltb-true, eq-eqb, ne_eqb}
pub use Rattle.std.proofs.lemmas.List.{length-map, map_push, take_all}
pub use Rattle.std.proofs.lemmas.List.Folds.{list_any-append}
pub use Rattle.std.proofs.lemmas.List.Kept.{IsStrictlySortedBy-filter}
pub use Rattle.std.proofs.lemmas.Result.{err_from_is_err_and}
pub use Rattle.std.proofs.lemmas.Option.{same_Some}
pub use Rattle.std.specs.Cmp.{unsigned_tied, nat_cmp_total, IsTotalOrder}
pub use Rattle.std.specs.Cmp.Lexicographic.{nat_list_cmp_total}
pub use Rattle.std.specs.FinMap.{get-remove, get-from_entries, entries, get, get-empty, same_map, get-insert}
pub use Rattle.std.specs.FinMap.{get-entries, FinMap, IsAntisymmetric, slice_cmp-IsAntisymmetric}
pub use Rattle.std.specs.FinMap.{nat_cmp-IsAntisymmetric}
pub use Rattle.std.specs.Global.{Vec}
pub use Rattle.std.specs.List.{filter, AllByRecursion, list_any}
pub use Rattle.std.specs.Option.{option_map}
pub use Rattle.std.specs.Ordering.{nat_cmp, eq_by_cmp}
pub use Rattle.std.specs.Prelude.{IfOk, Bool, ◌&&◌, Err, IfErr, slice_get, slice_set, ◌⊎◌, ◌||◌, IfSome, is_none}
pub use Rattle.std.specs.Prelude.{is_some, OnErr, Result, OnOk, not, nat_lt, ◌==◌}
pub use Rattle.std.specs.Vec.{vec_items, vec_capacity}
pub use Rattle.std.specs.declared.cmp.Ordering.{Ordering}
pub use Rattle.std.specs.declared.cmp.Ordering.TheVariants.{Less}
pub use Rattle.sk_bytes.specs.Calls.{refusal_of, TellsUndone, AreOnce, Counts, Unchanged, RefusesGuess, resting_on}
pub use Rattle.sk_bytes.specs.Calls.{HasPlaces, has_long_key, is_long, RefusesNext}
pub use Rattle.sk_bytes.specs.Numbers.{exchanged, AreNames, LetsGo, names, listed, Gains, ListsAbsent}
pub use Rattle.sk_bytes.specs.Steps.{deed_in, IsAsItWas, IsHandedOver, byte_deed, Swaps}
pub use Rattle.sk_bytes.specs.Told.{with_string, told_of, UsedBut, slots_told, ByteView, IsTold, AllRest, slot_shown}
pub use Rattle.sk_bytes.specs.Told.{Fits, IsTwoWay, strings_of, shown}
pub use Rattle.sk_bytes.specs.declared.refusal.Refusal.{Refusal}
pub use Rattle.sk_bytes.specs.declared.refusal.Refusal.TheVariants.{NoNumber, Memory, TooMany}
pub use Rattle.sk_deeds.proofs.Runs.{performs}
pub use Rattle.sk_deeds.specs.Deed.{Deed, again}
pub use Rattle.sk_guesses.proofs.Listed.{none_carried, uncut, carries}
pub use Rattle.sk_guesses.specs.Kept.{none_drawn}
pub use Rattle.sk_guesses.specs.Token.{Token}
pub use Rattle.sk_index.proofs.Strings.{some_none, same_bytes}
pub use Rattle.sk_index.specs.Index.{Numbered, bytes_cmp, string_of, numbers_in, AreApart, number_of, Adds, Removes}
pub use Rattle.sk_outputs.specs.Said.{said_at}
pub use Rattle.sk_record.proofs.Machine.{has_filter}
pub use Rattle.sk_record.proofs.Rising.{same_rising, above}
pub use Rattle.sk_record.proofs.Sound.{eqb_turned}
pub use Rattle.sk_record.specs.Effects.{written_value, is_in}
pub use Rattle.sk_record.specs.Machine.{with_drawn, released, Fails, with_failure, with_status}
pub use Rattle.sk_record.specs.Merged.{MergedTakes, MergedCommits, Merges}
pub use Rattle.sk_record.specs.Notes.{Note, committed, noted, unwound, without, last_tags, cut, has}
pub use Rattle.sk_record.specs.Run.{put}
pub use Rattle.sk_record.specs.Step.{Effect}
pub use Rattle.sk_record.specs.UndoState.{tags_at}
pub use Rattle.sk_record.specs.declared.status.Status.{Status}
pub use Rattle.sk_renamed.specs.Renamed.{at_key, KeepsApart, IsDeed, keys_of, renamed, AreWrites}
pub use Rattle.sk_slots.specs.Slot.{SlotView}
pub use Rattle.sk_slots.specs.Slots.{log_at, found, slot_in, look_at}
pub use Rattle.sk_speculator.proofs.Afterwards.{whole_same, whole_taken, whole_first, whole_told, grows, next_above}
pub use Rattle.sk_speculator.proofs.Afterwards.{whole_failed, whole_committed, whole_forgotten, no_next}
pub use Rattle.sk_speculator.proofs.Writing.{from_ok, from_err, made_whole, take_next}
pub use Rattle.sk_speculator.specs.Calls.{Refuses, next_of, Forgets, FailPost, FailsIn, Commits, TookBack, IsStranger}
pub use Rattle.sk_speculator.specs.Calls.{Takes}
pub use Rattle.sk_speculator.specs.Parts.{IsSame, undo_state_of, Parts, machine_of, made_by}
pub use Rattle.sk_speculator.specs.WholeStep.{WholeStep}
pub use Rattle.sk_speculator.specs.declared.decided.Committed.{Committed}
pub use Rattle.sk_speculator.specs.declared.decided.Undone.{Undone}
pub use Rattle.sk_speculator.specs.declared.refusal.Refusal.{Refusal as Inner}
pub use Rattle.sk_ids.proofs.Newest.{without_none}
