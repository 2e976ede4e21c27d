-- What the proofs of this crate cite from outside of them, passed on from one place. Declares nothing.
pub use Rattle.std.proofs.Common.{Some, Bool, cond, subst, ◌∷◌, zero-add, ◌&&◌, zero, ◌≡◌, ◌^◌, rules, ◌-◌, ◌+◌, Option}
pub use Rattle.std.proofs.Common.{arith, List, ap, ◌++◌, length, append_assoc, ◌||◌, ℕ, true, drop, sym, None, suc, ◌≤◌}
pub use Rattle.std.proofs.Common.{take, false, ◌<◌, refl, Result, [], ◌∙◌, not, map}
pub use Rattle.std.proofs.Math.Bool.{or_assoc}
pub use Rattle.std.proofs.lemmas.Bool.{or_right, false≢true, eqb-true, eq-eqb, ne_eqb}
pub use Rattle.std.proofs.lemmas.Bool.Decides.{Decides-and, Decides-like, Decides-at}
pub use Rattle.std.proofs.lemmas.Fn.{filter_same}
pub use Rattle.std.proofs.lemmas.List.{append_cancel_left, map-append, take-append-drop, append-nil, length-set}
pub use Rattle.std.proofs.lemmas.List.Folds.{list_any-append}
pub use Rattle.std.proofs.lemmas.List.Kept.{AllPairs-from_increasing, IsStrictlySortedBy-filter}
pub use Rattle.std.proofs.lemmas.List.Sorted.{searched}
pub use Rattle.std.proofs.lemmas.List.Sums.{prefix_len-le-length}
pub use Rattle.std.proofs.lemmas.Map.Keys.{IsStrictlyIncreasing-from_sorted}
pub use Rattle.std.proofs.lemmas.Map.Views.{tells_apart}
pub use Rattle.std.proofs.lemmas.Result.{on_err_weaker}
pub use Rattle.std.specs.Bool.{one_answer}
pub use Rattle.std.specs.Cmp.{nat_cmp_is, eq_by_cmp_equiv, nat_cmp_total, both_ways}
pub use Rattle.std.specs.Cmp.Lexicographic.{pointwise, pointwise_decides}
pub use Rattle.std.specs.List.{filter, remove, insert, prefix_len, AllByRecursion, list_all, list_any}
pub use Rattle.std.specs.List.Retain.{RetainsInTurn}
pub use Rattle.std.specs.List.Sorted.{IsBinarySearchResult, IsStrictlySortedBy}
pub use Rattle.std.specs.Option.{option_map, option_copied_mut, unwrap_or}
pub use Rattle.std.specs.Ordering.{nat_cmp, eq_by_cmp}
pub use Rattle.std.specs.Prelude.{eqb, Ok, Err, slice_index_or, get_or, slice_set, OnErr, ◌==◌}
pub use Rattle.std.specs.Vec.{vec_capacity}
pub use Rattle.std.specs.declared.cmp.Ordering.TheVariants.{Less}
pub use Rattle.sk_ids.proofs.GuessSets.{rising_one}
pub use Rattle.sk_ids.proofs.Newest.{without_none}
pub use Rattle.sk_ids.specs.SameLemma.{exact_text}
pub use Rattle.sk_ids.proofs.Searches.{found, taken_at, tells}
pub use Rattle.sk_map.specs.Seen.{seen}
pub use Rattle.sk_record.proofs.Machine.{has_filter}
pub use Rattle.sk_record.proofs.Stays.{said_more, fewer_texts, fewer_tags}
pub use Rattle.sk_record.specs.Machine.{lightened, released, not_dropped}
pub use Rattle.sk_record.specs.Notes.{without, has}
pub use Rattle.sk_terminal.specs.Held.{AreBounded, texts_of}
pub use Rattle.sk_terminal.specs.Listing.{is_listed, rests_at, HasNone, AreListed, ListsAtMost, NoneListed, AreTidy}
pub use Rattle.sk_terminal.specs.Same.{same_texts, same_terminals, same_said}
pub use Rattle.sk_terminal.specs.SameLemma.{exact_texts, exact_terminals}
pub use Rattle.sk_terminal.specs.Terminal.{TaggedText, any_rests, is_clear, clear, waiting_of}
pub use Rattle.sk_terminal.specs.Terminals.{said_to, TerminalMap, texts_at}
pub use Rattle.sk_terminal.specs.contracts.numbered.Numbered.{the_view}
pub use Rattle.sk_terminal.specs.declared.listing.Listing.{Listing}
pub use Rattle.sk_terminal.specs.declared.terminal.Held.{Held}
