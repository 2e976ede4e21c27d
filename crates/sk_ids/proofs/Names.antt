-- What the proofs of this crate cite from outside of them, passed on from one place. Declares nothing.
pub use Rattle.std.proofs.Common.{Some, eqb, Equal, Bool, true≢false, subst, ◌≢◌, inr, length-take-le, ◌∷◌, Greater}
pub use Rattle.std.proofs.Common.{inl, ◌&&◌, zero, ◌≡◌, rules, ◌-◌, ◌+◌, get_or-drop, arith, slice_index_or, List, ap₂}
pub use Rattle.std.proofs.Common.{IsTrue, ap, ◌*◌, ◌++◌, length, ◌||◌, ℕ, take-append-drop, true, drop-cons, drop, All}
pub use Rattle.std.proofs.Common.{sym, Fits, None, suc, ◌≤◌, take, false, ◌<◌, drop_of_length-le, refl, [], ◌∙◌, nat_lt}
pub use Rattle.std.proofs.Common.{not, w8, cond}
pub use Rattle.std.proofs.Math.ListN.{replicate}
pub use Rattle.std.proofs.Math.Seq.{drop-append-add, drop-append_seam, take-append_seam}
pub use Rattle.std.proofs.lemmas.Bool.{ltb-false, or_right, or_cases, or_left, leb-false, eqb-true, ltb-true, eq-eqb}
pub use Rattle.std.proofs.lemmas.List.{drop-replicate, drop-drop, length-replicate, length-drop, append_assoc}
pub use Rattle.std.proofs.lemmas.List.{length-append, replicate-append-replicate, take_at}
pub use Rattle.std.proofs.lemmas.List.Edits.{length-remove}
pub use Rattle.std.proofs.lemmas.List.Folds.{list_any-append}
pub use Rattle.std.proofs.lemmas.List.Kept.{IsStrictlySortedBy-dedup, Contains-dedup_nat, AllPairs-from_increasing}
pub use Rattle.std.proofs.lemmas.List.Kept.{IsStrictlySortedBy-filter, Contains-from_dedup}
pub use Rattle.std.proofs.lemmas.List.Sorted.{list_any-IsPermutation, searched}
pub use Rattle.std.proofs.lemmas.Map.Keys.{sorted_from_strictly_increasing, sorted_tail, sorted_head}
pub use Rattle.std.proofs.lemmas.Map.Keys.{IsStrictlyIncreasing-from_sorted}
pub use Rattle.std.proofs.lemmas.Map.Views.{Contains-from_any, list_any-from_Contains}
pub use Rattle.std.specs.BTreeMap.{is_at}
pub use Rattle.std.specs.Cmp.{eq_by_cmp_equiv, ranks, unsigned_tied}
pub use Rattle.std.specs.Cmp.{nat_cmp_total, both_ways, IsTotalOrder, nat_eq_equiv}
pub use Rattle.std.specs.Cmp.Lexicographic.{slice_cmp, texts_ties, pointwise}
pub use Rattle.std.specs.FinMap.{get-remove, get-from_entries, from_entries, len-entries, empty_of_len, entries, get}
pub use Rattle.std.specs.FinMap.{entries-from_sorted, entries-insert, insert, find, get-insert, put, IsAntisymmetric}
pub use Rattle.std.specs.FinMap.{from_sorted}
pub use Rattle.std.specs.List.{filter, remove, refill, dedup, AllByRecursion, list_all, list_any}
pub use Rattle.std.specs.List.Sorted.{IsBinarySearchResult, IsPermutation, IsStrictlySortedBy}
pub use Rattle.std.specs.Map.{lookup, keys_of}
pub use Rattle.std.specs.Ordering.{MatchOrdering, nat_cmp, is_eq, ordering_then, eq_by_cmp}
pub use Rattle.std.specs.Prelude.{Ok, Err, Option, get_or, IfSome, is_some, is_ok, Result}
pub use Rattle.std.specs.declared.cmp.Ordering.{Ordering}
pub use Rattle.std.specs.declared.cmp.Ordering.TheVariants.{Less}
pub use Rattle.sk_ids.specs.Invariants.{IsTidyName}
pub use Rattle.sk_ids.specs.Name.{is_name_byte, IsName}
pub use Rattle.sk_ids.specs.Word.{word_at}
pub use Rattle.sk_ids.specs.declared.name.TheConstants.{NAME_LIMIT}
pub use Rattle.sk_ids.specs.declared.text.TheConstants.{TEXT_LIMIT}
pub use Rattle.sk_record.proofs.Rising.{above}
pub use Rattle.sk_record.proofs.UndoStates.{and_both}
pub use Rattle.sk_record.specs.Notes.{without, has}
pub use Rattle.sk_ids.specs.Same.{same_pair, same_map}
