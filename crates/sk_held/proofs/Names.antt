-- What the proofs of this crate cite from outside of them, passed on from one place. Declares nothing.
pub use Rattle.std.proofs.Common.{Some, Bool, cond, subst, inr, Ok, ◌∷◌, Err, ◌&&◌, inl, zero, ◌≡◌, rules, ◌+◌, Option}
pub use Rattle.std.proofs.Common.{arith, List, ap, ◌++◌, length, ◌||◌, ℕ, true, drop, sym, None, suc, ◌≤◌, false, ◌<◌}
pub use Rattle.std.proofs.Common.{refl, Result, [], ◌∙◌, not, map}
pub use Rattle.std.proofs.Math.ListN.{get_or-map}
pub use Rattle.std.proofs.lemmas.Bool.{ltb-false, true≢false, or_right, or_cases, or_left, eqb-true, ltb-true, eq-eqb}
pub use Rattle.std.proofs.lemmas.Bool.{not-true, and_parts}
pub use Rattle.std.proofs.lemmas.Cmp.{ranked}
pub use Rattle.std.proofs.lemmas.List.{length-map, map-append, append-nil}
pub use Rattle.std.proofs.lemmas.List.Folds.{list_any-append}
pub use Rattle.std.proofs.lemmas.List.Kept.{IsStrictlySortedBy-filter}
pub use Rattle.std.proofs.lemmas.List.Sorted.{answers_always}
pub use Rattle.std.proofs.lemmas.Option.{get_or_from_slice_get, slice_get_within, slice_get-get_or}
pub use Rattle.std.specs.Global.{Vec}
pub use Rattle.std.specs.List.{filter, remove, AllByRecursion, prefix_len, list_any}
pub use Rattle.std.specs.List.Sorted.{IsBinarySearchResult, IsSearchInRange, IsStrictlySortedBy, IsNonDecreasingBy}
pub use Rattle.std.specs.Option.{option_map, IfSome}
pub use Rattle.std.specs.Ordering.{nat_cmp, ordering_index}
pub use Rattle.std.specs.Prelude.{get_or, slice_get, is_some, nat_lt, ◌==◌}
pub use Rattle.std.specs.Result.{result_ok}
pub use Rattle.std.specs.Vec.{vec_items}
pub use Rattle.std.specs.declared.cmp.Ordering.{Ordering}
pub use Rattle.std.specs.declared.cmp.Ordering.TheVariants.{Equal, Greater, Less}
pub use Rattle.sk_bytes.specs.Calls.{FailPost, has_long_key, is_long}
pub use Rattle.sk_bytes.specs.Steps.{byte_deed}
pub use Rattle.sk_bytes.specs.Told.{ByteView}
pub use Rattle.sk_bytes.specs.declared.bytes.Unmade.{Unmade}
pub use Rattle.sk_bytes.specs.declared.refusal.Refusal.{Refusal}
pub use Rattle.sk_bytes.specs.declared.refusal.Refusal.TheVariants.{Memory, LongKey}
pub use Rattle.sk_deeds.specs.Deed.{Deed}
pub use Rattle.sk_guesses.proofs.Kept.{statuses_redeemed}
pub use Rattle.sk_guesses.proofs.Opens.{more_rises}
pub use Rattle.sk_guesses.specs.Kept.{struck_with, AreStatuses, none_drawn, KeptView}
pub use Rattle.sk_guesses.specs.Opens.{open_in}
pub use Rattle.sk_guesses.specs.Token.{Token}
pub use Rattle.sk_held.specs.Held.{is_long_value, is_long_key, WritesPost, HeldView, PutsPost, Says}
pub use Rattle.sk_held.specs.Outputs.{first_of, but_first, MayBring}
pub use Rattle.sk_held.specs.Tokens.{AreHeld, is_out, ids}
pub use Rattle.sk_held.specs.declared.output.Output.{Output}
pub use Rattle.sk_ids.proofs.Searches.{taken_at, tells}
pub use Rattle.sk_index.specs.Index.{bytes_cmp}
pub use Rattle.sk_record.proofs.Machine.{has_filter}
pub use Rattle.sk_record.specs.Machine.{rests_on, with_drawn, with_failure, with_status}
pub use Rattle.sk_record.specs.Notes.{without, has}
pub use Rattle.sk_record.specs.UndoState.{still_open, not_struck, numbers, Open}
pub use Rattle.sk_record.specs.declared.status.Status.{Status}
pub use Rattle.sk_record.specs.declared.status.Status.TheVariants.{Failed, Struck}
pub use Rattle.sk_speculator.specs.Calls.{next_of, CommitPost, Forgets, FailsIn, Commits, IsStranger, Takes}
pub use Rattle.sk_speculator.specs.Parts.{Parts}
pub use Rattle.sk_speculator.specs.WholeStep.{WholeStep}
pub use Rattle.sk_speculator.specs.declared.decided.Committed.{Committed}
pub use denote.Ref.{Bor}
pub use Rattle.std.proofs.Math.Bool.{or_assoc}
