-- What the proofs of this crate cite from outside of them, passed on from one place. Declares nothing.
pub use Rattle.std.proofs.Common.{ap, ◌++◌, length, Bool, ◌||◌, cond, ℕ, nat_cmp, subst, true, drop, ◌∷◌, sym, ◌&&◌}
pub use Rattle.std.proofs.Common.{suc, zero, ◌≤◌, ◌≡◌, rules, ◌+◌, false, ◌<◌, arith, refl, List, [], ◌∙◌, not, get_or}
pub use Rattle.std.proofs.Common.{map}
pub use Rattle.std.proofs.lemmas.Bool.{eqb-false, true≢false, eqb-true, not-true, not-false}
pub use Rattle.std.proofs.lemmas.Fn.{filter_same}
pub use Rattle.std.proofs.lemmas.List.Kept.{IsStrictlySortedBy-filter}
pub use Rattle.std.proofs.lemmas.List.Sorted.{searched}
pub use Rattle.std.proofs.lemmas.Map.Keys.{non_decreasing_from_sorted}
pub use Rattle.std.specs.Cmp.{nat_cmp_is}
pub use Rattle.std.specs.List.{slice_get, remove, prefix_len, AllByRecursion, insert}
pub use Rattle.std.specs.List.Retain.{RetainsInTurn}
pub use Rattle.std.specs.List.Sorted.{IsStrictlySortedBy, IsBinarySearchResult}
pub use Rattle.std.specs.Option.{option_map}
pub use Rattle.std.specs.Prelude.{Some, Ok, IfSome, None, Err, ◌-◌, Option, slice_index_or, nat_lt, ◌==◌}
pub use Rattle.std.specs.declared.cmp.Ordering.TheVariants.{Less}
pub use Rattle.sk_ids.proofs.Newest.{without_none}
pub use Rattle.sk_ids.proofs.Searches.{taken_at, tells}
pub use Rattle.sk_outputs.specs.Ready.{AreCounted, AreReady, ChannelsView, is_ready}
pub use Rattle.sk_outputs.specs.Resting.{some_rest, NoneAbove}
pub use Rattle.sk_ids.proofs.Newest.{none_above}
pub use Rattle.sk_outputs.specs.Said.{said_at, first_of, is_empty, Said, waiting_of, SaidView}
pub use Rattle.sk_record.proofs.Machine.{has_filter}
pub use Rattle.sk_record.proofs.Sound.{eqb_turned}
pub use Rattle.sk_record.specs.Machine.{not_dropped, released_if, lightened, Tagged, released}
pub use Rattle.sk_record.specs.Notes.{has, without}
pub use Rattle.std.proofs.lemmas.List.{nil_from_length}
pub use Rattle.std.proofs.lemmas.Result.{on_ok_weaker}
pub use Rattle.sk_record.proofs.Lemmas.{shorter}
