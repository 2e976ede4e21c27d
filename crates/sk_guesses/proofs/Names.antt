-- What the proofs of this crate cite from outside of them, passed on from one place. Declares nothing.
pub use Rattle.std.proofs.Common.{Some, count_by, Bool, cond, subst, ◌≢◌, inr, ◌^◌, ◌∷◌, ◌&&◌, inl, zero, ◌≡◌, rules}
pub use Rattle.std.proofs.Common.{◌-◌, ◌+◌, Option, arith, List, ap, ◌*◌, ◌++◌, length, append_assoc, ◌||◌, ℕ, true}
pub use Rattle.std.proofs.Common.{ltb, drop, sym, length-append, None, suc, ◌≤◌, take, false, ◌<◌, refl, Result, []}
pub use Rattle.std.proofs.Common.{length-set, ◌∙◌, not, map}
pub use Rattle.std.proofs.Math.Numerals.{suc-eq-add-one}
pub use Rattle.std.proofs.Math.Seq.{drop-cons}
pub use Rattle.std.proofs.lemmas.Bool.{ltb-false, true≢false, or_right, or_cases, or_left, leb-false, leb-true}
pub use Rattle.std.proofs.lemmas.Bool.{cases_eq, false≢true, eqb-true, ltb-true, eq-eqb}
pub use Rattle.std.proofs.lemmas.Fn.{filter_same}
pub use Rattle.std.proofs.lemmas.List.{get_or-set_same, length-map, map-append, append-nil}
pub use Rattle.std.proofs.lemmas.List.Folds.{list_any-append}
pub use Rattle.std.proofs.lemmas.List.Kept.{IsStrictlySortedBy-filter}
pub use Rattle.std.proofs.lemmas.List.Recursion.{is_count_by}
pub use Rattle.std.proofs.lemmas.List.Sorted.{searchable_from_sorted}
pub use Rattle.std.proofs.lemmas.List.Sums.{prefix_len_stops, sum_by-set, sum_by-cons, prefix_len_passes}
pub use Rattle.std.proofs.lemmas.Map.Keys.{Less-from_sorted}
pub use Rattle.std.proofs.lemmas.Option.{get_or_from_slice_get, slice_get_within}
pub use Rattle.std.specs.Cmp.{nat_cmp_is, both_ways, Equal-is, IsTotalOrder}
pub use Rattle.std.specs.FinMap.{IsAntisymmetric}
pub use Rattle.std.specs.List.{filter, remove, insert, AllByRecursion, AllZip, cons_option, prefix_len, list_all, list_any}
pub use Rattle.std.specs.List.Sorted.{IsBinarySearchResult, IsStrictlySortedBy, IsNonDecreasingBy}
pub use Rattle.std.specs.Ordering.{nat_cmp, is_eq, ordering_index, eq_by_cmp, ordering_reverse, is_lt}
pub use Rattle.std.specs.Prelude.{Ok, Err, ◌↔◌, slice_index_or, ◌/◌, slice_get, slice_set, IsOk, is_some, if◌then◌else◌}
pub use Rattle.std.specs.Prelude.{min, nat_le, OnOk, ◌%◌, nat_lt, ◌==◌}
pub use Rattle.std.specs.Vec.{vec_capacity}
pub use Rattle.std.specs.declared.cmp.Ordering.{Ordering}
pub use Rattle.std.specs.declared.cmp.Ordering.TheVariants.{Equal, Greater, Less}
pub use Rattle.sk_guesses.specs.Dependents.{IsAlmostExact, with_tags, Depends, AllExact, Covers, tags_by}
pub use Rattle.sk_guesses.specs.Dependents.{AllAlmostExact}
pub use Rattle.sk_guesses.specs.EntitySet.{with_entities, with_entity, without_entity, SetView, by_order}
pub use Rattle.sk_guesses.specs.Four.{flat, FourStatuses, from_bits, unpacked, bits_of, at, of_tail}
pub use Rattle.sk_guesses.specs.Guesses.{is_undecided, decided, status_of, drawn, next_of, status_since, is_full}
pub use Rattle.sk_guesses.specs.Guesses.{GuessesView, undecided_of, settled}
pub use Rattle.sk_guesses.specs.Kept.{struck_with, forgotten, Kept, AreKept, with_struck, AreBelow, AreStatuses}
pub use Rattle.sk_guesses.specs.Kept.{one_drawn, known, keys_of, KeptView}
pub use Rattle.sk_guesses.specs.Opens.{open_in, left_to, but, relieved, relieved_beyond, struck_by, without_list, depending}
pub use Rattle.sk_guesses.specs.Opens.{dependents_of, guess_tags, opens_of, AreOpen, OpenGuess, not_resting, after_commit}
pub use Rattle.sk_guesses.specs.Opens.{without_tag}
pub use Rattle.sk_guesses.specs.Room.{Listing, Roomy, Settlement}
pub use Rattle.sk_guesses.specs.Row.{in_order, InOrder, ArePresent, AreApart, AreKeys}
pub use Rattle.sk_guesses.specs.Token.{Token}
pub use Rattle.sk_guesses.specs.declared.guess.Redeemed.{Redeemed}
pub use Rattle.sk_guesses.specs.declared.guesses.TheConstants.{GUESS_LIMIT}
pub use Rattle.sk_guesses.specs.declared.settled.Tail.{Tail}
pub use Rattle.sk_ids.proofs.Newest.{none_above}
pub use Rattle.sk_ids.specs.declared.guess.TheConstants.{LAST_GUESS}
pub use Rattle.sk_record.proofs.Machine.{has_filter}
pub use Rattle.sk_record.proofs.Merged.{same_last}
pub use Rattle.sk_record.proofs.Rising.{same_rising, above}
pub use Rattle.sk_record.proofs.UndoStates.{and_both}
pub use Rattle.sk_record.specs.Effects.{is_in}
pub use Rattle.sk_record.specs.Epoch.{or_since, status_in}
pub use Rattle.sk_record.specs.Machine.{rests_on, with_drawn, with_failure, with_status}
pub use Rattle.sk_record.specs.Merged.{Merges}
pub use Rattle.sk_record.specs.Notes.{Note, carried, committed, noted, without, last_tags, cut, has}
pub use Rattle.sk_record.specs.UndoState.{still_open, not_struck, IsGrowing, numbers, Open}
pub use Rattle.sk_record.specs.declared.status.Status.{Status}
pub use Rattle.sk_record.specs.declared.status.Status.TheVariants.{Failed, Committed, Struck, Undecided}
pub use Rattle.slab.specs.Slab.{Slab, Updates, with_value, slab_len}
