-- What the proofs of this crate cite from outside of them, passed on from one place. Declares nothing.
pub use Rattle.std.proofs.Common.{ap, ◌++◌, append_assoc, ℕ, subst, ◌∷◌, sym, None, ◌≡◌, Option, List, [], ◌∙◌}
pub use Rattle.std.proofs.lemmas.List.{append-nil}
pub use Rattle.std.specs.Cmp.{IsTotalOrder}
pub use Rattle.std.specs.FinMap.{FinMap, IsAntisymmetric}
pub use Rattle.sk_deeds.proofs.Runs.{first}
pub use Rattle.sk_deeds.specs.Told.{told_more, with_told, Told}
pub use Rattle.sk_guesses.specs.Kept.{AreStatuses}
pub use Rattle.sk_own_rests.specs.OwnLogs.{OwnStandsAsLogged, OwnLogs}
pub use Rattle.sk_record.specs.Run.{System}
pub use Rattle.sk_record.specs.Trace.{Event}
pub use Rattle.sk_record.specs.declared.status.Status.{Status}
pub use Rattle.sk_rests.proofs.Along.{Stands, one_more, stands_first, taken_out}
pub use Rattle.sk_rests.proofs.Ends.{ends}
pub use Rattle.sk_rests.specs.Laws.{IsAsLogged}
pub use Rattle.sk_rests.specs.Logged.{IsLogOf, Logged}
pub use Rattle.sk_speculator.specs.Calls.{Forgets}
pub use Rattle.sk_speculator.specs.Law.{Tells, Returns, Does, TakesOut, events_of, Happens, Call, IsFirst}
pub use Rattle.sk_speculator.specs.Parts.{machine_of, undo_state_of, Parts}
pub use Rattle.sk_speculator.proofs.Law.{forgotten, goes, none_yet, starts, taken_from}
