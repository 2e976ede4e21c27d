-- What the proofs of this crate cite from outside of them, passed on from one place. Declares nothing.
pub use Rattle.std.proofs.Common.{ap, Some, ◌++◌, ℕ, subst, Ok, ◌∷◌, sym, None, ◌≡◌, false, Option, refl, List, [], ◌∙◌}
pub use Rattle.std.proofs.Common.{map}
pub use Rattle.std.specs.List.{filter, list_any}
pub use Rattle.std.specs.Ordering.{eq_by_cmp}
pub use Rattle.std.specs.Prelude.{Bool, ◌||◌, Err, if◌then◌else◌, Result}
pub use Rattle.std.specs.declared.cmp.Ordering.{Ordering}
pub use Rattle.sk_deeds.proofs.Runs.{performs}
pub use Rattle.sk_deeds.specs.Deed.{again, Deed, effect_of}
pub use Rattle.sk_record.specs.Effects.{writes, MarkedEffect, is_marked, written_value, is_in}
pub use Rattle.sk_record.specs.Machine.{Machine, with_drawn, Fails}
pub use Rattle.sk_record.specs.Merged.{Merges, MergedTakes, MergedCommits}
pub use Rattle.sk_record.specs.Notes.{last_tags, cut, has, committed, noted, unwound}
pub use Rattle.sk_record.specs.Release.{said_by}
pub use Rattle.sk_record.specs.Run.{marked_effect}
pub use Rattle.sk_record.specs.Step.{Effect}
pub use Rattle.sk_record.specs.Trace.{marks}
pub use Rattle.sk_record.specs.UndoState.{opened, step_tags, is_tag, tags_at, UndoState, numbers}
pub use Rattle.sk_renamed.specs.Laws.{FailsRenamed, CommitsRenamed, TakesRenamed}
pub use Rattle.sk_renamed.specs.Renamed.{at_key, IsDeed, renamed_state, keys_of, KeepsApart, renamed, AreWrites}
