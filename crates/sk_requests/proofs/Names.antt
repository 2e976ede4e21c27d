-- What the proofs of this crate cite from outside of them, passed on from one place. Declares nothing.
pub use Rattle.std.proofs.Common.{Some, Bool, subst, ◌≢◌, inr, Ok, ◌∷◌, decimal, Err, inl, slice_index, zero, ◌≡◌, ◌^◌}
pub use Rattle.std.proofs.Common.{rules, ◌-◌, ◌+◌, Option, arith, List, ap, ◌*◌, ◌++◌, length, ◌⊎◌, ℕ, true, drop, sym, ◌/◌}
pub use Rattle.std.proofs.Common.{length-append, None, suc, ◌≤◌, take, false, ◌<◌, refl, Result, [], ◌%◌, ◌∙◌, not}
pub use Rattle.std.proofs.lemmas.Bool.{eqb-false, cases_lt, false≢true, eqb-true, eq-eqb, ne_eqb}
pub use Rattle.std.proofs.lemmas.Fmt.{length-decimal-le, decimal_digit, decimal_injective, decimal_step, decimal_by_steps}
pub use Rattle.std.proofs.lemmas.List.{get_or-take, length-take-le, get_or-append-add, at_drop_all, drop_at}
pub use Rattle.std.proofs.lemmas.List.{length-drop, at_drop_more, take_all, append_assoc, map-append}
pub use Rattle.std.proofs.lemmas.List.{append_cancel_right, take-append-drop, get_or_append_left, take_more, take_at}
pub use Rattle.std.proofs.lemmas.List.{get_or_at, append-nil}
pub use Rattle.std.proofs.lemmas.Result.{err_from_is_err_and}
pub use Rattle.std.specs.Prelude.{eqb, unwrap_or, map, slice_get, vec_capacity, is_some, if◌then◌else◌, ◌==◌, cond}
pub use Rattle.sk_requests.specs.Faults.{NoLine, NoEnd, InWords, NoHead, HasFault}
pub use Rattle.sk_requests.specs.Inline.{line_words, words_from, ended}
pub use Rattle.sk_requests.specs.Laws.{StreamsReadOnce, StreamsGoOn, PartsAreNone, CutsDontMatter, FaultsAreApart}
pub use Rattle.sk_requests.specs.Lines.{value_from, said, IsLine, head, TakesLine}
pub use Rattle.sk_requests.specs.Reading.{Reads, InWord, InArray, KeepsLine, Keeps, has_some, IsAt, IsFound, IsBehind}
pub use Rattle.sk_requests.specs.Reading.{words_of}
pub use Rattle.sk_requests.specs.Replies.{in_line}
pub use Rattle.sk_requests.specs.Request.{bulk, IsRequest, IsArray, IsInline, array, total, bulks, IsTooLarge, Fits}
pub use Rattle.sk_requests.specs.Request.{IsWithin, BeginsNone, AreWords}
pub use Rattle.sk_requests.specs.Stream.{Splits, HasFound, EndsWithin, HasRead, ReadsOn, IsTold, IsPart}
pub use Rattle.sk_requests.specs.Whole.{IsNextWord}
pub use Rattle.sk_requests.specs.declared.fault.Fault.{Fault}
pub use Rattle.sk_requests.specs.declared.fault.Fault.TheVariants.{End, Length, Line, Count, Mark}
pub use Rattle.sk_requests.specs.declared.fault.Refusal.{Refusal}
pub use Rattle.sk_requests.specs.declared.limits.Limits.{Limits}
pub use Rattle.sk_requests.specs.declared.place.Place.{Place}
pub use Rattle.sk_requests.specs.declared.place.Place.TheVariants.{Front, Word}
pub use Rattle.sk_requests.specs.declared.reader.Found.{Found}
pub use Rattle.sk_requests.specs.declared.reader.Reader.{Reader}
pub use Rattle.sk_requests.specs.declared.reader.Taken.{Taken}
