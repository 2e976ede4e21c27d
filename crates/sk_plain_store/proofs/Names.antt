-- What the proofs of this crate cite from outside of them, passed on from one place. Declares nothing.
pub use Rattle.std.proofs.Common.{T, ap, bytes_eq, Some, ◌++◌, length, Bool, ℕ, subst, true, ◌∷◌, sym, None, is_some}
pub use Rattle.std.proofs.Common.{◌≡◌, take, ◌+◌, false, Option, ◌<◌, map, refl, List, [], ◌∙◌, not, get_or, cond}
pub use Rattle.std.proofs.lemmas.Bool.Decides.{same_from_decides}
pub use Rattle.std.proofs.lemmas.List.{take_more}
pub use Rattle.std.proofs.lemmas.Map.Keys.{sorted_tail, sorted_head}
pub use Rattle.std.proofs.lemmas.Slice.Eq.{bytes_eq-Decides}
pub use Rattle.std.specs.BTreeMap.{insert_entry, is_at}
pub use Rattle.std.specs.Cmp.{tied_itself, IsTotalOrder}
pub use Rattle.std.specs.Cmp.Lexicographic.{nat_list_cmp_total}
pub use Rattle.std.specs.FinMap.{is_sorted, slice_cmp-IsAntisymmetric, nat_cmp-IsAntisymmetric}
pub use Rattle.std.specs.FinMap.Entries.{below_all, find-put, find-where_key, is_sorted-where_key, is_sorted-put}
pub use Rattle.std.specs.FinMap.Entries.{is_some-find}
pub use Rattle.std.specs.Global.{Vec}
pub use Rattle.std.specs.List.{AllByRecursion, list_any}
pub use Rattle.std.specs.List.Sorted.{IsStrictlySortedBy}
pub use Rattle.std.specs.Map.{remove_entry, set_value}
pub use Rattle.std.specs.Ordering.{eq_by_cmp, is_eq, match_ordering, is_lt}
pub use Rattle.std.specs.Prelude.{◌&&◌}
pub use Rattle.std.specs.Vec.{vec_items}
pub use Rattle.std.specs.Vec.Iter.{into_iter_items}
pub use Rattle.std.specs.declared.cmp.Ordering.{Ordering}
pub use Rattle.std.specs.declared.cmp.Ordering.TheVariants.{Equal, Greater, Less}
pub use Rattle.sk_commands.proofs.Alone.{work_alone}
pub use Rattle.sk_commands.specs.Table.{told, Written, is_among}
pub use Rattle.sk_commands.specs.Work.{with_value, after}
pub use Rattle.sk_plain_store.specs.Places.{Places, place_of, entries_of, HavePlaces, has_place, KeepsPlaces}
pub use Rattle.sk_plain_store.specs.Places.{with_entry}
pub use Rattle.sk_plain_store.specs.Plain.{written_to, keys_of, bytes_cmp, Entries, held, written_at}
pub use Rattle.std.proofs.lemmas.Option.{same_Some}
