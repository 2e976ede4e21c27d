-- The names of other crates, and of the types of this one, that definitions and clauses cite. Declares nothing.
pub use Rattle.sk_bytes.specs.declared.bytes.TheConstants.{KEY_LIMIT}
pub use Rattle.sk_bytes.specs.declared.bytes.Unmade.{Unmade}
pub use Rattle.sk_bytes.specs.declared.refusal.Refusal.{Refusal}
pub use Rattle.sk_bytes.specs.declared.refusal.Refusal.TheVariants.{LongKey, LongValue, Memory, NoNumber, TooMany}
pub use Rattle.sk_deeds.specs.Deed.{Deed}
pub use Rattle.sk_guesses.specs.Kept.{known, none_drawn, struck_with}
pub use Rattle.sk_guesses.specs.Opens.{guess_tags}
pub use Rattle.sk_guesses.specs.Token.{Token}
pub use Rattle.sk_index.specs.Index.{Numbered, bytes_cmp, number_of, string_of}
pub use Rattle.sk_outputs.specs.Said.{first_of, said_at, waiting_of}
pub use Rattle.sk_record.specs.Effects.{is_in}
pub use Rattle.sk_record.specs.Machine.{released}
pub use Rattle.sk_record.specs.Notes.{Note, has, last_tags}
pub use Rattle.sk_record.specs.Run.{System, put}
pub use Rattle.sk_record.specs.UndoState.{numbers, tags_at}
pub use Rattle.sk_renamed.specs.Renamed.{IsDeed, at_key, keys_of}
pub use Rattle.sk_slots.specs.Counted.{HasPresent}
pub use Rattle.sk_slots.specs.Slot.{SlotView}
pub use Rattle.sk_slots.specs.Slots.{log_at, look_at}
pub use Rattle.sk_speculator.specs.Calls.{CommitPost, FailsIn, Forgets, IsStranger, Refuses, Takes, next_of}
pub use Rattle.sk_speculator.specs.Emptied.{IsEmptied}
pub use Rattle.sk_speculator.specs.Law.{OwnRunsAsPlain}
pub use Rattle.sk_speculator.specs.Parts.{IsSame, IsWhole, Parts, parts_code, undo_state_of}
pub use Rattle.sk_speculator.specs.WholeStep.{WholeStep}
pub use Rattle.sk_speculator.specs.declared.refusal.Refusal.{Refusal as Inner}
pub use Rattle.std.specs.Coded.{Coded, code_by, coded_list, coded_ℕ, coded×}
pub use Rattle.std.specs.FinMap.{FinMap, empty, entries}
pub use Rattle.std.specs.Global.{Vec}
pub use Rattle.std.specs.Int.NonZero.{non_zero_u16_get}
pub use Rattle.std.specs.List.{filter, list_any, slice_get}
pub use Rattle.std.specs.Option.{option_copied, option_map}
pub use Rattle.std.specs.Ordering.{nat_cmp}
pub use Rattle.std.specs.Vec.{vec_capacity, vec_items, vec_len}
