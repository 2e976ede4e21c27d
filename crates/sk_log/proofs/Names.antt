-- What the proofs of this crate cite from outside of them, passed on from one place. Declares nothing.
pub use Rattle.std.proofs.Common.{ap, Some, ◌*◌, length-drop, ◌++◌, length, slice_set, sum, ℕ, add-zero, subst, inr}
pub use Rattle.std.proofs.Common.{drop, ◌∷◌, sym, length-append, inl, suc, slice_index, zero, ◌≤◌, ◌≡◌, take, ◌^◌, ◌-◌}
pub use Rattle.std.proofs.Common.{rules, ◌+◌, ◌<◌, arith, refl, List, [], ◌%◌, ◌∙◌, ◌/◌}
pub use Rattle.std.proofs.lemmas.Bool.{cases_lt, false≢true}
pub use Rattle.std.proofs.lemmas.List.{get_or_past, get_or-take, drop_at, ext_get_or, length-take, take-append-drop}
pub use Rattle.std.proofs.lemmas.List.{length-take-le, get_or_append_left, get_or-drop, drop-drop, take_at}
pub use Rattle.std.proofs.lemmas.List.{get_or-append-add, append-nil, append_assoc}
pub use Rattle.std.proofs.lemmas.List.Sums.{sum_by-cons, sum_by-append}
pub use Rattle.std.proofs.lemmas.Nat.{and_le_r}
pub use Rattle.sk_log.specs.Crash.{IsFaded, Crashed, BlankingKeeps, UsesFront, CrashKeepsPrefix, GoesOn, ReadsPrefix}
pub use Rattle.sk_log.specs.Crash.{CrashesAreShort, Keeps, CrashesAgain}
pub use Rattle.sk_log.specs.Frame.{Ends, head, frame, digits, front, IsFrame, head_of}
pub use Rattle.sk_log.specs.Front.{FrontIs, IsShort, IsOther, BeginsAs, BeginsFrame}
pub use Rattle.sk_log.specs.Log.{AreFrames, log, IsLog}
pub use Rattle.sk_log.specs.Reading.{RestIs, KeptBegin, EndsAt, Reading, IsNext, Remains, HasRead, Settles}
pub use Rattle.sk_log.specs.Segments.{joined, SegmentsJoin, synced_of}
pub use Rattle.sk_log.specs.contracts.recovery.Recovery.{the_view}
pub use Rattle.sk_log.specs.declared.front.Front.{Front}
pub use Rattle.sk_log.specs.declared.front.Front.TheVariants.{Short, Whole, Other}
pub use Rattle.sk_log.specs.declared.recovery.Rest.{Rest}
