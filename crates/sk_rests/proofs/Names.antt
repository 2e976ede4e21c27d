-- What the proofs of this crate cite from outside of them, passed on from one place. Declares nothing.
pub use Rattle.std.proofs.Common.{Some, Bool, cond, subst, inr, Ok, ◌∷◌, ◌&&◌, inl, Err, zero, ◌≡◌, Option, arith, List}
pub use Rattle.std.proofs.Common.{ap, ◌++◌, append_assoc, ◌||◌, ℕ, true, sym, None, suc, false, refl, Result, [], ◌∙◌}
pub use Rattle.std.proofs.Common.{not, map}
pub use Rattle.std.proofs.Math.Bool.{and-true}
pub use Rattle.std.proofs.lemmas.Bool.{true≢false, or_right, or_cases, false_from_ne_true, or_left, or_from, or_parts}
pub use Rattle.std.proofs.lemmas.Bool.{eqb-true, eq-eqb, true_from_ne_false}
pub use Rattle.std.proofs.lemmas.List.{map-append, append-nil}
pub use Rattle.std.proofs.lemmas.List.Elements.{Contains-append_left, Contains-push, Contains-append_cases}
pub use Rattle.std.proofs.lemmas.List.Elements.{Contains-append_right, filter-append}
pub use Rattle.std.proofs.lemmas.List.Folds.{list_any-append}
pub use Rattle.std.specs.Cmp.{IsTotalOrder}
pub use Rattle.std.specs.FinMap.{get, FinMap, IsAntisymmetric}
pub use Rattle.std.specs.List.{filter, Contains, list_any}
pub use Rattle.std.specs.Prelude.{◌↔◌, slice_get, ◌⊎◌, is_ok, ◌==◌}
pub use Rattle.std.specs.declared.cmp.Ordering.{Ordering}
pub use Rattle.sk_deeds.proofs.Runs.{first, one}
pub use Rattle.sk_deeds.proofs.Told.{fails_told, stands_told, commits_told, takes_told}
pub use Rattle.sk_deeds.specs.Deed.{effect_of}
pub use Rattle.sk_deeds.specs.Moves.{Steps, Moves}
pub use Rattle.sk_deeds.specs.Told.{TakenOut, Does, Tells, untagged, told_more, Call, with_told, moves_of, Told}
pub use Rattle.sk_record.proofs.Machine.{union_is, longer, has_filter, unmarked_hits, accepted_run, nil_right}
pub use Rattle.sk_record.proofs.Merged.{same_tags, merged_run}
pub use Rattle.sk_record.proofs.Notes.{has_passed}
pub use Rattle.sk_record.proofs.Sound.{marked_is, eqb_turned, or_no, undecided_is, entries_are, fresh_from, draws}
pub use Rattle.sk_record.proofs.Sound.{first_or, tests, has_fail, is_drawn, mark_is, record_more, tail_of}
pub use Rattle.sk_record.proofs.Sound.{undrawn_before, any_from, is_fail}
pub use Rattle.sk_record.proofs.Statuses.{one_status}
pub use Rattle.sk_record.proofs.Struck.{struck_runs, later, flags}
pub use Rattle.sk_record.proofs.Texts.{got_map}
pub use Rattle.sk_record.proofs.Tidy.{recorded_more, tidy_of}
pub use Rattle.sk_record.proofs.UndoStates.{any_at, inv_of, and_both}
pub use Rattle.sk_record.proofs.Values.{get-put_all}
pub use Rattle.sk_record.specs.Effects.{MarkedEffect, is_marked, dirt, dirtied, Dep, touches, keep, hit, hits}
pub use Rattle.sk_record.specs.Effects.{written_value}
pub use Rattle.sk_record.specs.Machine.{Tagged, Machine}
pub use Rattle.sk_record.specs.Merged.{MergedStands}
pub use Rattle.sk_record.specs.Notes.{next_dirty, has, rests, tags_along}
pub use Rattle.sk_record.specs.Release.{said_by, said_with}
pub use Rattle.sk_record.specs.Run.{effects, marked_effect, System, IsLegal, after, run, outcome}
pub use Rattle.sk_record.specs.Step.{Effect, perform}
pub use Rattle.sk_record.specs.Strike.{strike, struck}
pub use Rattle.sk_record.specs.Trace.{Taken, Event, Record, all_recorded, marks, no_record, Fail, undecided_of}
pub use Rattle.sk_record.specs.Trace.{effects_of, record_of, still_marked, IsDrawn, Commit}
pub use Rattle.sk_record.specs.UndoState.{is_tag, tags_at, numbers}
pub use Rattle.sk_record.specs.declared.status.Status.TheVariants.{Failed, Committed, Undecided}
pub use Rattle.sk_rests.specs.Idle.{IdleMayGo, PartIsKept, OthersAreIdle}
pub use Rattle.sk_rests.specs.Laws.{RangeIsStruck, IsSaid, StandsAsLogged, IsAsLogged}
pub use Rattle.sk_rests.specs.Logged.{Logs, IsLogOf, IsLogged, kept, is_struck, said_to, failed_in, done_at}
pub use Rattle.sk_rests.specs.Logged.{resting_among, Logged}
