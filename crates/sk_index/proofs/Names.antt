-- What the proofs of this crate cite from outside of them, passed on from one place. Declares nothing.
pub use Rattle.std.proofs.Common.{ap, Some, count_by, length, ℕ, subst, ◌≢◌, true, ltb, ◌∷◌, sym, zero-add, None}
pub use Rattle.std.proofs.Common.{is_some, suc, zero, ◌≤◌, ◌≡◌, ◌^◌, ◌+◌, false, Option, ◌<◌, arith, refl, List, []}
pub use Rattle.std.proofs.Common.{◌∙◌, get_or, cond}
pub use Rattle.std.proofs.lemmas.Bool.{eqb-false, ltb-false, eqb-true, ltb-true, eq-eqb, ne_eqb}
pub use Rattle.std.proofs.lemmas.List.{get_or_past}
pub use Rattle.std.proofs.lemmas.List.Sums.{sum_by-cons}
pub use Rattle.std.proofs.lemmas.Map.Lookups.{exact_unsigned, exact_pairs}
pub use Rattle.std.proofs.lemmas.Map.Text.{is_eq-slice_cmp}
pub use Rattle.std.proofs.lemmas.Slice.Eq.{bytes_eq-Decides}
pub use Rattle.std.specs.BTreeMap.{is_at}
pub use Rattle.std.specs.BTreeMap.Range.{range_contains}
pub use Rattle.std.specs.BTreeSet.{keys_between, BTreeSet, contains}
pub use Rattle.std.specs.Bool.{Decides}
pub use Rattle.std.specs.Cmp.{nat_cmp_is}
pub use Rattle.std.specs.FinMap.{find}
pub use Rattle.std.specs.Global.{Vec}
pub use Rattle.std.specs.Hash.DefaultHasher.{write, finish}
pub use Rattle.std.specs.HashMap.{HashMap}
pub use Rattle.std.specs.List.{filter, AllByRecursion, list_any}
pub use Rattle.std.specs.List.Sorted.{IsStrictlySortedBy}
pub use Rattle.std.specs.Option.{option_map}
pub use Rattle.std.specs.Ordering.{ordering_then, eq_by_cmp, is_le, nat_cmp, is_eq, is_lt}
pub use Rattle.std.specs.Prelude.{Bool, ◌||◌, ◌&&◌, if◌then◌else◌, not, ◌==◌}
pub use Rattle.std.specs.declared.cmp.Ordering.{Ordering}
pub use Rattle.std.specs.declared.cmp.Ordering.TheVariants.{Equal, Greater, Less}
pub use Rattle.std.specs.declared.ops.Bound.TheVariants.{Included}
pub use Rattle.sk_index.specs.Index.{number_of, Adds, bytes_cmp, Removes, string_of, numbers_in, AreApart}
pub use Rattle.sk_index.specs.Inside.{numbered, first_under, is_under, IsIndex, is_place, place_cmp}
pub use Rattle.slab.specs.Slab.{Slab, Updates, get}
pub use Rattle.std.proofs.lemmas.Option.{same_Some}
