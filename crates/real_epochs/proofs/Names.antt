-- What the proofs of this crate cite from outside of them, passed on from one place. Declares nothing.
pub use Rattle.std.proofs.Common.{Some, None, Bool, subst, ap, ◌++◌, false, true, refl, [], map, Ok, Err, ◌∷◌, ◌≡◌, ◌||◌, ◌&&◌}
pub use Rattle.std.proofs.Common.{arith, ◌+◌, zero, suc, length, ◌⊎◌, Option, List, ℕ, sym, ◌∙◌, inl, inr, not, cond, filter, if◌then◌else◌}
pub use Rattle.std.proofs.lemmas.Bool.{or_right, or_from, or_parts, or_left, eqb-true, eq-eqb, true≢false, false≢true}
pub use Rattle.std.proofs.lemmas.Bool.{or_cases, false_from_ne_true, true_from_ne_false}
pub use Rattle.std.proofs.lemmas.List.{append_assoc, append-nil}
pub use Rattle.std.proofs.lemmas.List.Folds.{list_any-append}
pub use Rattle.std.specs.Cmp.{IsTotalOrder, nat_cmp_total, unsigned_tied}
pub use Rattle.std.specs.FinMap.{FinMap, get, nat_cmp-IsAntisymmetric, IsAntisymmetric}
pub use Rattle.std.specs.List.{list_any}
pub use Rattle.std.specs.Ordering.{eq_by_cmp, nat_cmp}
pub use Rattle.std.specs.Prelude.{◌==◌}
pub use Rattle.sk_record.proofs.Machine.{has_filter}
pub use Rattle.sk_record.proofs.Sets.{get-put}
pub use Rattle.sk_record.proofs.Texts.{map_append}
pub use Rattle.sk_record.specs.Effects.{MarkedEffect, dirt, dirtied, hit, hits, is_in, is_marked, keep, touches, writes}
pub use Rattle.sk_record.specs.Machine.{Tagged, released}
pub use Rattle.sk_record.specs.Notes.{has, without, rests, next_dirty, tags_along}
pub use Rattle.sk_record.specs.Release.{said_by, said_with}
pub use Rattle.sk_record.specs.Run.{after, effects, marked_effect, outcome, run}
pub use Rattle.real_epochs.specs.declared.event.Event.{Event}
pub use Rattle.real_epochs.specs.declared.event.Event.TheVariants.{Changes, Told, Says}
pub use Rattle.real_epochs.specs.Story.{Epoch, Story, all_in, changed_in, known_after, said_on}
pub use Rattle.real_epochs.specs.Story.{told_in, in_newest, in_none, in_oldest, but_oldest}
pub use Rattle.real_epochs.specs.Host.{Entry, Opens, Does, host, tree, mark, act, deed_of, entries_of, events_in, is_begun}
pub use Rattle.std.specs.FinMap.{get-empty}
pub use Rattle.sk_deeds.proofs.Runs.{first, one as one_move}
pub use Rattle.sk_deeds.proofs.Told.{takes_told, commits_told, fails_told, stands_told}
pub use Rattle.sk_deeds.specs.Deed.{Deed, effect_of}
pub use Rattle.sk_deeds.specs.Moves.{Moves}
pub use Rattle.sk_deeds.specs.Told.{Told as Out, told_more, untagged, with_told}
pub use Rattle.sk_guesses.specs.Kept.{AreStatuses, KeptView, struck_with}
pub use Rattle.sk_guesses.specs.Opens.{open_in}
pub use Rattle.sk_guesses.specs.Token.{Token}
pub use Rattle.sk_record.proofs.Merged.{same_tags}
pub use Rattle.sk_record.proofs.Sound.{entries_are, eqb_turned, fresh_from, marked_is, record_more}
pub use Rattle.sk_record.proofs.Tidy.{recorded_more, tags_are}
pub use Rattle.sk_record.specs.Machine.{Machine}
pub use Rattle.sk_record.specs.Merged.{MergedStands}
pub use Rattle.sk_record.specs.Release.{IsFront}
pub use Rattle.sk_record.specs.Step.{perform}
pub use Rattle.sk_record.specs.Strike.{strike}
pub use Rattle.sk_record.specs.Trace.{all_recorded, no_record, record_of, recorded, still_marked, undecided_of, Commit, Fail, Record, Taken}
pub use Rattle.sk_record.specs.Trace.{Event as Move}
pub use Rattle.sk_record.specs.UndoState.{numbers, not_struck, tags_at, Open}
pub use Rattle.sk_record.specs.declared.status.Status.{Status}
pub use Rattle.sk_speculator.specs.Base.{log_at, look_at, said_at}
pub use Rattle.sk_speculator.proofs.Law.{forgotten, goes, none_yet, starts, taken_from}
pub use Rattle.sk_speculator.specs.Calls.{next_of, Commits, CommitPost, FailPost, FailsIn, Forgets, Takes, TookBack}
pub use Rattle.sk_speculator.specs.Law.{Happens, IsFirst, TakesOut}
pub use Rattle.sk_speculator.specs.Parts.{deed, machine_of, made_by, undo_state_of, IsSame, Parts}
pub use Rattle.real_epochs.specs.declared.begun.Begun.{Begun}
pub use Rattle.sk_record.proofs.UndoStates.{and_both}
