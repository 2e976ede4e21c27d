-- What the proofs of this crate cite from outside of them, passed on from one place. Declares nothing.
pub use Rattle.std.proofs.Common.{Some, Bool, subst, inr, zero, ◌-◌, arith, ap, ◌++◌, length, append_assoc, ltb, suc}
pub use Rattle.std.proofs.Common.{◌≤◌, take, false, refl, [], map, eqb, Ok, ◌∷◌, ◌&&◌, inl, Err, ◌≡◌, ◌+◌, Option, List}
pub use Rattle.std.proofs.Common.{IsOk, ◌||◌, ℕ, true, sym, None, ◌<◌, Result, ◌∙◌, not, cond}
pub use Rattle.std.proofs.Math.Bool.{and-true, and-false, or-false}
pub use Rattle.std.proofs.lemmas.Bool.{eqb-false, or_right, or_from, or_parts, eqb-true, ltb-true, true_from_ne_false}
pub use Rattle.std.proofs.lemmas.Bool.{ltb-false, and_from, true≢false, or_cases, false_from_ne_true, or_left}
pub use Rattle.std.proofs.lemmas.Bool.{false≢true, eq-eqb, ne_eqb}
pub use Rattle.std.proofs.lemmas.List.Elements.{Contains-append_left, Contains-push_cases, filter-append}
pub use Rattle.std.proofs.lemmas.List.Folds.{list_any-append}
pub use Rattle.std.proofs.lemmas.List.Kept.{IsStrictlySortedBy-filter, AllPairs-filter}
pub use Rattle.std.proofs.lemmas.List.Quantifiers.{all_pairs_push}
pub use Rattle.std.proofs.lemmas.List.Sums.{fold-append}
pub use Rattle.std.proofs.lemmas.Map.Views.{Contains-from_any, any-filter_same, list_any-from_Contains}
pub use Rattle.std.specs.Cmp.{nat_cmp_is, eq_by_cmp_equiv, Equal-is, IsTotalOrder, both_ways}
pub use Rattle.std.specs.FinMap.{get, get-insert, IsAntisymmetric, get-remove, FinMap}
pub use Rattle.std.specs.List.{fold, AllPairs, filter, list_all, list_any, Contains, AllByRecursion}
pub use Rattle.std.specs.List.Sorted.{IsStrictlyIncreasing}
pub use Rattle.std.specs.Ordering.{eq_by_cmp, nat_cmp}
pub use Rattle.std.specs.Prelude.{◌↔◌, slice_get, is_ok, ◌==◌, get_or, ◌⊎◌}
pub use Rattle.std.specs.declared.cmp.Ordering.{Ordering}
pub use Rattle.std.specs.declared.cmp.Ordering.TheVariants.{Equal, Less, Greater}
pub use Rattle.sk_record.specs.Effects.{writes, IsMarked, value_after, touches, hit, itself, place, MarkedEffect}
pub use Rattle.sk_record.specs.Effects.{is_marked, dirt, dirtied, Dep, keep, fed, hits, written_value, is_in}
pub use Rattle.sk_record.specs.Epoch.{StatusSince, StatusOr, or_since, status_in, EndsAt, IsEpoch}
pub use Rattle.sk_record.specs.Laws.{Later, StaysReleased, CommitKeeps, UnwindsToStruckRun, StruckWithin, FlagsAreDep}
pub use Rattle.sk_record.specs.Laws.{StruckRun, LaterDep, Survivors, NotesAreSuffix, Footprint, UndecidedAre}
pub use Rattle.sk_record.specs.Laws.{MachineIsPlainRun, LogsAreRuns, TagsAlong, OneStatus}
pub use Rattle.sk_record.specs.Machine.{released_if, lightened, Tagged, with_drawn, Fails, RepresentsTrace, Commits}
pub use Rattle.sk_record.specs.Machine.{TextsRepresent, Machine, machine_at_start, moved, Takes, rests_on, released}
pub use Rattle.sk_record.specs.Machine.{IsPlainRun, not_dropped, with_failure, took_by, machine_after, with_status}
pub use Rattle.sk_record.specs.Merged.{last_of, with_value, each, MergedCommits, Merges, alone_tags, MergedTakes}
pub use Rattle.sk_record.specs.Merged.{MergedStands, HandsIn, StepsAlone, IsMergedOf}
pub use Rattle.sk_record.specs.Notes.{committed, unwound, last_tags, notes_of, has, tags_along, Note, next_dirty}
pub use Rattle.sk_record.specs.Notes.{carried, noted, without, cut, rests}
pub use Rattle.sk_record.specs.Release.{said_by, IsReleased, said, said_with, IsFront, IsClear, said_from}
pub use Rattle.sk_record.specs.Run.{effects, marked_effect, System, put, after, run, outcome, IsLegal, put_all}
pub use Rattle.sk_record.specs.Step.{with_read, Step, Effect, Done, Ask, Refuse, perform}
pub use Rattle.sk_record.specs.Strike.{struck, strike}
pub use Rattle.sk_record.specs.Trace.{IsTagOf, deps, Taken, Event, Record, marks, no_record, HasEntry, record_after}
pub use Rattle.sk_record.specs.Trace.{Struck, undecided_of, Undecided, IsSound, still_marked, IsDrawn, IsAllowed}
pub use Rattle.sk_record.specs.Trace.{Commit, all_recorded, recorded, Fail, StatusIs, effects_of, record_of, IsTagAt}
pub use Rattle.sk_record.specs.Trace.{IsFresh}
pub use Rattle.sk_record.specs.UndoState.{Represents, step_tags, still_open, Failed, UndoState, OwnTagsExact, Committed}
pub use Rattle.sk_record.specs.UndoState.{Owned, Took, is_tag, IsGrowing, AllOwnTagsExact, numbers, opened, IsTidy}
pub use Rattle.sk_record.specs.UndoState.{not_struck, log_of, tags_at, Open}
pub use Rattle.sk_record.specs.declared.status.Status.{Status}
pub use Rattle.sk_record.specs.declared.status.Status.TheVariants.{Committed as StatusCommitted}
