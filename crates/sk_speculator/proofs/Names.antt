-- What the proofs of this crate cite from outside of them, passed on from one place. Declares nothing.
pub use Rattle.std.proofs.Common.{Some, Bool, subst, inr, Ok, ◌∷◌, ◌&&◌, Err, inl, zero, ◌≡◌, ◌+◌, Option, arith, map}
pub use Rattle.std.proofs.Common.{List, ap, ◌++◌, length, ◌||◌, ℕ, true, drop, sym, None, suc, ◌≤◌, take, false, ◌<◌}
pub use Rattle.std.proofs.Common.{refl, [], ◌∙◌, nat_lt, not, cond}
pub use Rattle.std.proofs.Math.Bool.{or_assoc}
pub use Rattle.std.proofs.Math.Numerals.{suc-eq-add-one}
pub use Rattle.std.proofs.Math.Seq.{drop-cons}
pub use Rattle.std.proofs.lemmas.Bool.{ltb-false, true≢false, or_right, or_cases, or_left, leb-false, or_parts}
pub use Rattle.std.proofs.lemmas.Bool.{false≢true, eqb-true, ltb-true, eq-eqb, and_parts}
pub use Rattle.std.proofs.lemmas.List.{append-nil, take_all, drop_all}
pub use Rattle.std.proofs.lemmas.Grind.{drop_more_same}
pub use Rattle.std.proofs.lemmas.List.Folds.{list_any-append}
pub use Rattle.std.proofs.lemmas.List.Sorted.{list_any-IsPermutation}
pub use Rattle.std.proofs.lemmas.Map.Keys.{sorted_from_strictly_increasing}
pub use Rattle.std.specs.Cmp.{eq_by_cmp_equiv, Equal-is, IsTotalOrder}
pub use Rattle.std.specs.FinMap.{get-empty, empty, FinMap, IsAntisymmetric}
pub use Rattle.std.specs.List.{list_any}
pub use Rattle.std.specs.List.Sorted.{IsStrictlySortedBy}
pub use Rattle.std.specs.Option.{unwrap_or}
pub use Rattle.std.specs.Ordering.{nat_cmp, eq_by_cmp}
pub use Rattle.std.specs.Prelude.{get_or, slice_set, ◌⊎◌, IfSome, is_none, is_some, OnErr, OnOk, Result, ◌==◌}
pub use Rattle.std.specs.Result.{is_err}
pub use Rattle.std.specs.declared.cmp.Ordering.{Ordering}
pub use Rattle.sk_deeds.proofs.Runs.{first, allowed, performs}
pub use Rattle.sk_deeds.proofs.Told.{fails_told, stands_told, commits_told, tells, takes_told}
pub use Rattle.sk_deeds.specs.Deed.{Entry, Deed, effect_of, again}
pub use Rattle.sk_deeds.specs.Moves.{IsNext, Moves, Starts}
pub use Rattle.sk_deeds.specs.Told.{TakenOut, untagged, Told, told_more, with_told}
pub use Rattle.sk_guesses.proofs.Listed.{left_more, none_carried, uncut, depends_exact, exact_at, depends_all}
pub use Rattle.sk_guesses.proofs.Listed.{depends_opens, exact_as, tags_written, carries, exact_more, almost_of, begun}
pub use Rattle.sk_guesses.proofs.Listed.{failed_almost, depends_none, none_left, committed_exact}
pub use Rattle.sk_guesses.proofs.Opens.{taken_opens, none_there, more_rises, same_opens, open_is, left_to_keeps}
pub use Rattle.sk_guesses.specs.Calls.{redeemed_at}
pub use Rattle.sk_guesses.specs.Dependents.{with_tags, AllExact, Covers, tags_by, AllAlmostExact}
pub use Rattle.sk_guesses.specs.EntitySet.{with_entities}
pub use Rattle.sk_guesses.specs.Kept.{redeemed_kept, struck_with, forgotten, with_struck, AreStatuses, one_drawn}
pub use Rattle.sk_guesses.specs.Kept.{HasKeptRoom, known, keys_of, none_drawn, KeptView}
pub use Rattle.sk_guesses.specs.Opens.{open_in, left_to, dependents_of, opens_of, OpenGuess, not_resting}
pub use Rattle.sk_guesses.specs.Token.{Token}
pub use Rattle.sk_ids.specs.SameLemma.{exact_bytes}
pub use Rattle.sk_outputs.specs.Said.{said_at, Said}
pub use Rattle.sk_record.proofs.Machine.{has_filter}
pub use Rattle.sk_record.proofs.Merged.{left_out, all_kept}
pub use Rattle.sk_record.proofs.Rising.{union_is_tags}
pub use Rattle.sk_record.proofs.Tidy.{grows_of, AllSome, rests_of, tidy_of}
pub use Rattle.sk_record.proofs.UndoStates.{no_tags, and_both}
pub use Rattle.sk_record.specs.Effects.{writes, MarkedEffect, is_marked, written_value, is_in}
pub use Rattle.sk_record.specs.Machine.{lightened, Tagged, with_drawn, released, Fails, IsPlainRun, not_dropped}
pub use Rattle.sk_record.specs.Machine.{with_failure, with_status, Machine}
pub use Rattle.sk_record.specs.Merged.{MergedTakes, MergedStands, MergedCommits, Merges, merged as joined}
pub use Rattle.sk_record.specs.Notes.{Note, committed, noted, unwound, without, last_tags, cut, has}
pub use Rattle.sk_record.specs.Release.{said_by}
pub use Rattle.sk_record.specs.Run.{marked_effect, System}
pub use Rattle.sk_record.specs.Trace.{Taken, Event, all_recorded, marks, no_record, Fail, StatusIs, Commit}
pub use Rattle.sk_record.specs.UndoState.{opened, step_tags, still_open, IsTidy, not_struck, tags_at, IsGrowing}
pub use Rattle.sk_record.specs.UndoState.{numbers, Open}
pub use Rattle.sk_record.specs.declared.status.Status.{Status}
pub use Rattle.sk_record.specs.declared.status.Status.TheVariants.{Struck, Undecided}
pub use Rattle.sk_slots.proofs.Joins.{merges}
pub use Rattle.sk_slots.proofs.Logs.{noted_again}
pub use Rattle.sk_slots.specs.Slot.{goes_unnoted, is_bare, is_settled, noted_on, is_empty, SlotView}
pub use Rattle.sk_slots.specs.Slots.{log_at, found, SettledBut, IsReady, slot_in, look_at, AllSettled}
pub use Rattle.sk_speculator.specs.Calls.{next_of, Forgets, FailsIn, Commits, TookBack, IsStranger, Takes}
pub use Rattle.sk_speculator.specs.Law.{Returns, Does, IsFirst, Tells, Calls, events_of, OwnRunsAsPlain, Happens, Call}
pub use Rattle.sk_speculator.specs.Law.{TakesOut}
pub use Rattle.sk_speculator.specs.Parts.{Performed, IsWhole, IsSame, undo_state_of, any_rests, Parts, machine_of, says}
pub use Rattle.sk_speculator.specs.Parts.{IsSound, made_by, first_tags, GoesOn}
pub use Rattle.sk_speculator.specs.declared.decided.Undone.{Undone}
pub use Rattle.sk_ids.proofs.Newest.{without_none}
