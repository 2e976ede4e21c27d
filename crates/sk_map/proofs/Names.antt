-- What the proofs of this crate cite from outside of them, passed on from one place. Declares nothing.
pub use Rattle.std.proofs.Common.{ap, Some, None, ◌≡◌, length, IsSome, Option, Bool, false, true≢false, refl, List, [], subst, ◌∙◌, sym}
pub use Rattle.std.proofs.lemmas.Bool.Decides.{Decides-at}
pub use Rattle.std.proofs.lemmas.Result.{err_from_is_err_and}
pub use Rattle.std.specs.BTreeMap.{keys}
pub use Rattle.std.specs.Borrow.{MutBor}
pub use Rattle.std.specs.Cmp.{eq_by_cmp_equiv, Equal-is, IsTotalOrder}
pub use Rattle.std.specs.FinMap.{IsAntisymmetric}
pub use Rattle.std.specs.List.Sorted.{IsStrictlySortedBy}
pub use Rattle.std.specs.Option.{option_copied_mut}
pub use Rattle.std.specs.Ordering.{is_eq, is_lt, ordering_reverse}
pub use Rattle.std.specs.Prelude.{OnSome, map}
pub use Rattle.std.specs.declared.cmp.Ordering.{Ordering}
pub use Rattle.std.specs.declared.cmp.Ordering.TheVariants.{Greater}
pub use Rattle.sk_ids.proofs.Ordered.{same_entries, entries_view}
pub use Rattle.sk_ids.proofs.Views.{one_given, one_removed, get_at}
pub use Rattle.sk_map.specs.Seen.{seen}
pub use Rattle.sk_ids.specs.Exact.{exact_from}
pub use Rattle.sk_ids.specs.Same.{same_map, exact_map, IsExact}
