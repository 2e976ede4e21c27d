-- What the proofs of this crate cite from outside of them, passed on from one place. Declares nothing.
pub use Rattle.std.proofs.Common.{rules, ap, Some, ◌++◌, length, Bool, ◌||◌, ℕ, subst, inr, true, drop, ◌∷◌, sym}
pub use Rattle.std.proofs.Common.{None, ◌&&◌, suc, zero, ◌≤◌, ◌≡◌, take, ◌-◌, ◌+◌, false, Option, ◌<◌, arith, refl}
pub use Rattle.std.proofs.Common.{List, [], ◌∙◌, not, cond}
pub use Rattle.std.proofs.Math.Numerals.{suc-eq-add-one}
pub use Rattle.std.proofs.Math.Seq.{drop-cons}
pub use Rattle.std.proofs.lemmas.Bool.{true≢false, or_left, not-true, not-false}
pub use Rattle.std.specs.Cmp.{eq_by_cmp_equiv, Equal-is, IsTotalOrder}
pub use Rattle.std.specs.FinMap.{get-remove, contains_key-keys, get-insert, FinMap, get, remove, get-empty}
pub use Rattle.std.specs.FinMap.{IsAntisymmetric, insert}
pub use Rattle.std.specs.List.{prefix_len}
pub use Rattle.std.specs.Option.{option_copied_mut, unwrap_or}
pub use Rattle.std.specs.Ordering.{eq_by_cmp}
pub use Rattle.std.specs.Prelude.{slice_set, IfOk, Ok, is_none, Err, is_some, slice_index_or, Result, OnOk, ◌==◌}
pub use Rattle.std.specs.Prelude.{get_or}
pub use Rattle.std.specs.Vec.{vec_len, vec_capacity}
pub use Rattle.std.specs.declared.cmp.Ordering.{Ordering}
pub use Rattle.sk_ids.specs.SameLemma.{exact_bytes}
pub use Rattle.sk_inversion.specs.Undone.{CanJoin, value_before, FitsBefore}
pub use Rattle.sk_inversion.specs.declared.before.Before.{Before}
pub use Rattle.sk_inversion.specs.declared.before.Before.TheVariants.{Was, Changed}
pub use Rattle.sk_record.proofs.Merged.{past}
pub use Rattle.sk_record.proofs.UndoStates.{and_both}
pub use Rattle.sk_record.specs.Effects.{is_in}
pub use Rattle.sk_record.specs.Merged.{Merges, merged, same_tags}
pub use Rattle.sk_record.specs.Notes.{Note, last_tags, cut, has, committed, noted, unwound, without}
pub use Rattle.sk_slots.specs.Kept.{CanGoBack, seen, newest_tags, rewound, ready_tags, without_ready}
pub use Rattle.sk_slots.specs.Slot.{are_of, goes_unnoted, noted_on, is_empty, is_bare, SlotView, is_settled, IsPrepared}
pub use Rattle.sk_slots.specs.Slots.{IsReady, log_at, slot_in, HasPrepared, found, look_at, AllSettled, SettledBut}
pub use Rattle.sk_slots.specs.declared.notes.Kept.{Kept}
pub use Rattle.std.proofs.lemmas.List.{take_all, drop_all}
pub use Rattle.std.proofs.lemmas.List.Sums.{prefix_len-le-length}
pub use Rattle.std.proofs.lemmas.Option.{same_Some}
