-- The names of other crates, and of the types of this one, that definitions and clauses cite. Declares nothing.
pub use Rattle.sk_guesses.specs.declared.guess.Redeemed.{Redeemed}
pub use Rattle.sk_guesses.specs.declared.guesses.DrawRefusal.{DrawRefusal}
pub use Rattle.sk_guesses.specs.declared.guesses.DrawRefusal.TheVariants.{Memory, TooMany}
pub use Rattle.sk_guesses.specs.declared.guesses.TheConstants.{GUESS_LIMIT}
pub use Rattle.sk_guesses.specs.declared.settled.Tail.{Tail}
pub use Rattle.sk_ids.specs.declared.guess.TheConstants.{LAST_GUESS}
pub use Rattle.sk_record.specs.Effects.{is_in}
pub use Rattle.sk_record.specs.Epoch.{or_since, status_in}
pub use Rattle.sk_record.specs.Machine.{rests_on, with_drawn, with_failure, with_status}
pub use Rattle.sk_record.specs.Notes.{Note, has, last_tags, without}
pub use Rattle.sk_record.specs.UndoState.{Open, not_struck, numbers, still_open}
pub use Rattle.sk_record.specs.declared.status.Status.{Status}
pub use Rattle.sk_record.specs.declared.status.Status.TheVariants.{Committed, Failed, Struck, Undecided}
pub use Rattle.slab.specs.Slab.{Slab, slab_len}
pub use Rattle.std.specs.Borrow.{Lends, sem}
pub use Rattle.std.specs.List.{AllByRecursion, AllZip, filter, insert, list_any, prefix_len, remove}
pub use Rattle.std.specs.List.Sorted.{IsBinarySearchResult, IsSearchInRange, IsStrictlySortedBy}
pub use Rattle.std.specs.Option.{option_copied, unwrap_or}
pub use Rattle.std.specs.Ordering.{eq_by_cmp, nat_cmp}
pub use Rattle.std.specs.Vec.{vec_capacity}
pub use Rattle.std.specs.declared.cmp.Ordering.{Ordering}
pub use Rattle.std.specs.declared.cmp.Ordering.TheVariants.{Equal, Greater, Less}
