-- What the proofs of this crate cite from outside of them, passed on from one place. Declares nothing.
pub use Rattle.std.proofs.Common.{Some, Bool, cond, subst, inr, zero, rules, ◌^◌, ◌-◌, arith, ap, ◌++◌, length, IsSome}
pub use Rattle.std.proofs.Common.{suc, ◌≤◌, take, false, refl, [], Ok, ◌∷◌, ◌&&◌, inl, Err, ◌≡◌, ◌+◌, Option, List}
pub use Rattle.std.proofs.Common.{get_or, ◌||◌, ℕ, true, drop, sym, None, min, ◌<◌, Result, ◌∙◌, not}
pub use Rattle.std.proofs.Math.Numerals.{suc-eq-add-one}
pub use Rattle.std.proofs.Math.Seq.{drop-cons}
pub use Rattle.std.proofs.lemmas.Bool.{or_right, or_parts, leb-true, eqb-true, and_parts, true≢false, or_left, eq-eqb}
pub use Rattle.std.proofs.lemmas.Fn.{filter_same}
pub use Rattle.std.proofs.lemmas.Grind.{reverse_onto}
pub use Rattle.std.proofs.lemmas.List.{drop_all, take-append-drop, reverse-append, length-reverse, reverse-reverse}
pub use Rattle.std.proofs.lemmas.List.{length-set}
pub use Rattle.std.proofs.lemmas.List.Folds.{list_any-append}
pub use Rattle.std.proofs.lemmas.List.Kept.{IsStrictlySortedBy-filter}
pub use Rattle.std.proofs.lemmas.List.Sums.{sum_by-cons}
pub use Rattle.std.proofs.lemmas.Map.Keys.{sorted_head, sorted_tail}
pub use Rattle.std.proofs.lemmas.Map.Views.{any-filter_same}
pub use Rattle.std.specs.Cmp.{eq_by_cmp_equiv, Equal-is, IsTotalOrder, tied_itself, first_so}
pub use Rattle.std.specs.Cmp.Lexicographic.{nat_list_cmp_total}
pub use Rattle.std.specs.FinMap.{get, insert, same_map, get-insert, get-remove, remove}
pub use Rattle.std.specs.FinMap.Entries.{below_all, is_sorted, find}
pub use Rattle.std.specs.FinSet.{len-remove, contains-empty, contains, FinSet, len-empty, contains-remove, same_set}
pub use Rattle.std.specs.FinSet.{contains-items, empty, items, len}
pub use Rattle.std.specs.List.{filter, prefix_len, list_all, list_any, AllByRecursion, sum_by}
pub use Rattle.std.specs.List.Sorted.{IsStrictlySortedBy}
pub use Rattle.std.specs.Option.{unwrap_or, option_map, option_copied_mut}
pub use Rattle.std.specs.Ordering.{ordering_then, eq_by_cmp, is_lt, nat_cmp, is_eq}
pub use Rattle.std.specs.Prelude.{map as each, ◌↔◌, slice_set, OnSome, OnErr, OnOk, ◌==◌, T, reverse, slice_index_or}
pub use Rattle.std.specs.Prelude.{is_none, is_some, nat_le}
pub use Rattle.std.specs.Vec.{vec_len, vec_capacity}
pub use Rattle.std.specs.declared.cmp.Ordering.{Ordering}
pub use Rattle.std.specs.declared.cmp.Ordering.TheVariants.{Equal, Less, Greater}
pub use Rattle.sk_changes.specs.declared.change.Change.{Change}
pub use Rattle.sk_changes.specs.declared.change.Undo.{Undo}
pub use Rattle.sk_ids.specs.EntityLemma.{entity_exact, entity_total}
pub use Rattle.sk_ids.specs.SameLemma.{exact_bytes}
pub use Rattle.sk_ids.specs.Entity.{object_cmp, entity_cmp}
pub use Rattle.sk_ids.specs.Name.{name_order}
pub use Rattle.sk_ids.specs.contracts.pid.ObjIdOrd.TheImpl.Laws.{total-law}
pub use Rattle.sk_ids.specs.declared.entity.Entity.{Entity}
pub use Rattle.sk_ids.specs.declared.entity.Entity.TheVariants.{Link, Proc, Copy, Sig, Obj, Exit}
pub use Rattle.sk_ids.specs.declared.pid.ObjId.{ObjId}
pub use Rattle.sk_map.specs.KeyLemma.{object_same, object_exact}
pub use Rattle.sk_record.proofs.Machine.{has_filter}
pub use Rattle.sk_record.proofs.Merged.{grow_in, past, both_committed, in_turn, same_last, all_kept, committed_some}
pub use Rattle.sk_record.proofs.Tidy.{AllSome}
pub use Rattle.sk_record.proofs.UndoStates.{and_both}
pub use Rattle.sk_record.specs.Effects.{is_in}
pub use Rattle.sk_record.specs.Merged.{merged, same_tags, Merges}
pub use Rattle.sk_record.specs.Notes.{committed, unwound, last_tags, has, Note, carried, noted, without, cut}
pub use Rattle.sk_record.specs.Run.{put}
pub use Rattle.sk_record.specs.UndoState.{IsGrowing}
pub use Rattle.sk_script.specs.declared.process.Process.{Process}
pub use Rattle.sk_store.proofs.CountedNames.{one_more, as_many, one_less}
pub use Rattle.sk_store.specs.Changed.{state_undone, changed, FitsAt}
pub use Rattle.sk_store.specs.Names.{name_there, IsCount}
pub use Rattle.sk_store.specs.Processes.{became, CanBecome}
pub use Rattle.sk_store.specs.State.{State}
pub use Rattle.sk_store.specs.declared.back.PutBack.{PutBack}
pub use Rattle.sk_store.specs.declared.back.PutBack.TheVariants.{Was, Changed}
pub use Rattle.sk_store.specs.declared.entity_state.EntityState.{EntityState}
pub use Rattle.sk_undo.specs.Count.{notes_in, AreUnnoted, note_count}
pub use Rattle.sk_undo.specs.Decisions.{AllGrow, SlotUnwound, SlotCommitted, Unwound, NoneBare, ChangedAt}
pub use Rattle.sk_undo.specs.Decisions.{Lightened, AllRest, AreListed}
pub use Rattle.sk_undo.specs.Kept.{AllSet, is_process_whole, object_undone, runs_of, run_of, was, is_apart}
pub use Rattle.sk_undo.specs.Laws.{all_wrote, AllRestOn, Write, GivesBack}
pub use Rattle.sk_undo.specs.Log.{EachRests, CanGoBack, newest_tags, lightened, FitsBy, is_covered, Grows}
pub use Rattle.sk_undo.specs.Log.{dropped, joined_from, stands_for, Covers, seen, undone_by}
pub use Rattle.sk_undo.specs.Log.{is_empty, goes_unnoted_raw, restores, repeats, carries, before_last}
pub use Rattle.sk_undo.specs.Log.{from_first, log_of}
pub use Rattle.sk_undo.specs.Logs.{CanTakeBack, LogsView, look_at, moved, log_at, CanUndoLast, slots_wrote, SlotMap}
pub use Rattle.sk_undo.specs.Logs.{slot_in, slots_back, placed}
pub use Rattle.sk_undo.specs.Names.{made_for, recounted, with_count, count_in, with_place, link_there, recounted_at}
pub use Rattle.sk_undo.specs.Names.{IsCounted, NameMap, count_for}
pub use Rattle.sk_undo.specs.Slot.{is_whole, committed_joined, own_tags, CanGoBackOnce, joined, is_stable_raw, Fits}
pub use Rattle.sk_undo.specs.Slot.{noted_on, SlotView, slot_of, goes_unnoted, is_needless, goes_on, is_bare, undone}
pub use Rattle.sk_undo.specs.Slot.{is_stable, slot_back, is_held_whole, NoteFits, slot_wrote}
pub use Rattle.sk_undo.specs.contracts.names.Names.{the_view}
pub use Rattle.sk_undo.specs.declared.log.Note.{Note as RawNote}
pub use Rattle.sk_undo.specs.declared.slots.TakeBack.{TakeBack}
pub use Rattle.sk_undo.specs.declared.slots.TakeBack.TheVariants.{UndoLast, DropSlot}
