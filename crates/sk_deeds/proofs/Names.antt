-- What the proofs of this crate cite from outside of them, passed on from one place. Declares nothing.
pub use Rattle.std.proofs.Common.{ap, Some, ◌++◌, append_assoc, ℕ, subst, true, ltb, Ok, ◌∷◌, sym, None, Err, ◌≡◌}
pub use Rattle.std.proofs.Common.{false, Option, ◌<◌, map, refl, List, [], ◌∙◌}
pub use Rattle.std.proofs.lemmas.Bool.{ltb-false, eqb-true, ltb-true}
pub use Rattle.std.proofs.lemmas.List.{append-nil}
pub use Rattle.std.specs.Cmp.{IsTotalOrder}
pub use Rattle.std.specs.FinMap.{FinMap, IsAntisymmetric}
pub use Rattle.std.specs.Prelude.{if◌then◌else◌, Result, ◌==◌}
pub use Rattle.sk_deeds.specs.Deed.{asking, again, Deed, effect_of, step_of}
pub use Rattle.sk_deeds.specs.Moves.{Goes, Moves, Starts, IsNext, Steps, RunsAsPlain}
pub use Rattle.sk_deeds.specs.Told.{Tells, TakenOut, Calls, untagged, Does, told_more, Call, with_told, moves_of}
pub use Rattle.sk_deeds.specs.Told.{TellsAsPlain, Told}
pub use Rattle.sk_record.proofs.Statuses.{one_status}
pub use Rattle.sk_record.specs.Machine.{not_dropped, lightened, Machine, Tagged, machine_at_start, Fails}
pub use Rattle.sk_record.specs.Merged.{Merges, MergedTakes, MergedStands, MergedCommits}
pub use Rattle.sk_record.specs.Release.{said_by}
pub use Rattle.sk_record.specs.Run.{marked_effect, System}
pub use Rattle.sk_record.specs.Step.{with_read, Done, perform}
pub use Rattle.sk_record.specs.Trace.{Taken, Event, Fail, IsAllowed, Commit}
pub use Rattle.sk_record.specs.UndoState.{step_tags}
pub use Rattle.sk_record.specs.declared.status.Status.TheVariants.{Undecided}
