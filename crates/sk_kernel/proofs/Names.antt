-- What the proofs of this crate cite from outside of them, passed on from one place. Declares nothing.
pub use Rattle.std.proofs.Common.{Some, Bool, subst, inr, zero, rules, ◌^◌, ◌-◌, arith, ap, Bor, ◌++◌, length}
pub use Rattle.std.proofs.Common.{append_assoc, suc, ◌≤◌, false, refl, [], map, Ok, ◌∷◌, ◌&&◌, inl, Err, ◌≡◌, ◌+◌}
pub use Rattle.std.proofs.Common.{Option, List, get_or, IsOk, ◌||◌, ℕ, true, sym, None, ◌<◌, Result, map as each_of}
pub use Rattle.std.proofs.Common.{◌∙◌, not, cond}
pub use Rattle.std.proofs.lemmas.Bool.{or_right, lt-ltb, or_from, or_parts, eqb-true, and_parts, true≢false, or_cases}
pub use Rattle.std.proofs.lemmas.Bool.{false_from_ne_true, or_left, false≢true, eq-eqb, le-ltb}
pub use Rattle.std.proofs.lemmas.List.{length-map, map-append, length-append, length-reverse, append-nil, length-set}
pub use Rattle.std.proofs.lemmas.List.Elements.{Contains-append_cases, Contains-append_left, Contains-push}
pub use Rattle.std.proofs.lemmas.List.Elements.{Contains-append_right}
pub use Rattle.std.proofs.lemmas.List.Folds.{list_any-append}
pub use Rattle.std.proofs.lemmas.List.Sums.{sum_by-cons, fold-append}
pub use Rattle.std.proofs.lemmas.Map.Keys.{sorted_from_strictly_increasing}
pub use Rattle.std.proofs.lemmas.Option.{slice_get_past}
pub use Rattle.std.specs.Bool.{then_some}
pub use Rattle.std.specs.Cmp.{nat_cmp_is, eq_by_cmp_equiv, Equal-is, IsTotalOrder}
pub use Rattle.std.specs.FinMap.{get, IsAntisymmetric, FinMap}
pub use Rattle.std.specs.FinMap.Entries.{below_all, is_some-find, is_sorted, find, same_entries}
pub use Rattle.std.specs.List.{fold, filter, list_all, list_any, Contains, AllByRecursion, sum_by}
pub use Rattle.std.specs.List.Sorted.{IsStrictlySortedBy}
pub use Rattle.std.specs.Option.{unwrap_or, option_copied}
pub use Rattle.std.specs.Ordering.{eq_by_cmp, is_lt, nat_cmp, is_eq}
pub use Rattle.std.specs.Prelude.{map as each, ◌↔◌, slice_get, MatchOption, IfSome, ◌==◌, T, IfOk, replicate, IsTrue}
pub use Rattle.std.specs.Prelude.{is_some, min, nat_le, nat_lt}
pub use Rattle.std.specs.declared.cmp.Ordering.{Ordering}
pub use Rattle.std.specs.declared.cmp.Ordering.TheVariants.{Equal, Less, Greater}
pub use Rattle.sk_guesses.proofs.Count.{count_of}
pub use Rattle.sk_guesses.proofs.Decided.{place-of}
pub use Rattle.sk_guesses.proofs.Statuses.{nothing_in, drawn-since, status-settled}
pub use Rattle.sk_guesses.specs.Calls.{redeemed_at, redeemed}
pub use Rattle.sk_guesses.specs.Guesses.{undecided_of as undecided_count, decided, status_of, next_of, status_since}
pub use Rattle.sk_guesses.specs.Guesses.{settled, opened, drawn, is_full, GuessesView}
pub use Rattle.sk_guesses.specs.Token.{Token}
pub use Rattle.sk_guesses.specs.declared.guesses.TheConstants.{GUESS_LIMIT}
pub use Rattle.sk_ids.specs.EntityLemma.{entity_exact, entity_total}
pub use Rattle.sk_ids.specs.Entity.{entity_cmp}
pub use Rattle.sk_ids.specs.declared.entity.Entity.{Entity}
pub use Rattle.sk_ids.specs.declared.entity.Entity.TheVariants.{Proc, Sig}
pub use Rattle.sk_ids.specs.declared.guess.TheConstants.{LAST_GUESS}
pub use Rattle.sk_ids.specs.declared.pid.ObjId.{ObjId}
pub use Rattle.sk_kernel.specs.Calls.{DecisionPost, ShowsTerminal, IsNextEpoch, LeavesTexts, IsNew}
pub use Rattle.sk_kernel.specs.Calls.{IsStranger}
pub use Rattle.sk_kernel.specs.Footprint.{appended, footprint_of}
pub use Rattle.sk_kernel.specs.HandIn.{with_steps, IsAsLent, alone_step}
pub use Rattle.sk_kernel.specs.Invariant.{IsWhole, Stands}
pub use Rattle.sk_kernel.specs.Kernel.{HasStatus, booted, said_by_record, next_guess, entry, effect_at, state_at, room}
pub use Rattle.sk_kernel.specs.Kernel.{number_after, last_guess, no_room, or_full, with_event, undecided_at, step_refused}
pub use Rattle.sk_kernel.specs.Kernel.{KernelView, crowded, step_misfit, trace_full, RestsOn, too_many, or_else}
pub use Rattle.sk_kernel.specs.Kernel.{guess_misfits, record_at, events_of, texts_at, tags_at, guess_refused}
pub use Rattle.sk_kernel.specs.Laws.{KeepsUnwritten, HasSoundTrace, AreEntries, AnswersAlike, WasDrawn, WritesAll}
pub use Rattle.sk_kernel.specs.Laws.{with_events}
pub use Rattle.sk_kernel.specs.Notes.{rests_at, CanHold}
pub use Rattle.sk_kernel.specs.Opening.{begun_at, opening_of, OpeningView}
pub use Rattle.sk_kernel.specs.contracts.kernel.Kernel.{the_view}
pub use Rattle.sk_kernel.specs.declared.room.TheConstants.{DIRECTORY_LIMIT}
pub use Rattle.sk_machine.proofs.Given.{if_ok, from_ok, from_err}
pub use Rattle.sk_machine.specs.Performed.{AreApart}
pub use Rattle.sk_machine.specs.Taken.{HandsInProcess}
pub use Rattle.sk_machine.proofs.Names.{notes_in, AreUnnoted, note_count, is_empty, look_at, log_at, SlotMap, slot_in, SlotView}
pub use Rattle.sk_machine.specs.Parts.{IsAtStart, Parts, machine_of, said_at, undo_state_of}
pub use Rattle.sk_plain.proofs.Adds.{adds_is}
pub use Rattle.sk_plain.proofs.Alone.{GoesOn, alone_run, runs_same}
pub use Rattle.sk_plain.proofs.Plans.{written_is}
pub use Rattle.sk_plain.proofs.Scan.{asked, changed_are}
pub use Rattle.sk_plain.specs.Act.{Scripts, act, Saying, plain}
pub use Rattle.sk_plain.specs.Adds.{adds_of, adds_in}
pub use Rattle.sk_plain.specs.Leased.{lease_of, alone_reads, Lends}
pub use Rattle.sk_plain.specs.Next.{is_due}
pub use Rattle.sk_plain.specs.Planned.{read_by, refusal_of, effect_of}
pub use Rattle.sk_plain.specs.Refusal.{cause}
pub use Rattle.sk_plain.specs.Replay.{image}
pub use Rattle.sk_plain.specs.Seen.{seen_with, PlansStep}
pub use Rattle.sk_plain.specs.View.{Shows}
pub use Rattle.sk_plain.specs.declared.plan.Plan.{Plan}
pub use Rattle.sk_plain.specs.declared.refusal.Refusal.{Refusal}
pub use Rattle.sk_plain.specs.declared.refusal.Refusal.TheVariants.{NoRoom, TooMany, TraceFull}
pub use Rattle.sk_record.proofs.Chains.{in_from}
pub use Rattle.sk_record.proofs.Epoch.{since_undecided, in_trace, stands_anew, no_opens, either_is, undecided_now}
pub use Rattle.sk_record.proofs.Epoch.{beyond, next_epoch}
pub use Rattle.sk_record.proofs.Handed.{handed_in}
pub use Rattle.sk_record.proofs.Machine.{has_filter, nil_right, run_append, trail_append}
pub use Rattle.sk_record.proofs.MachineRuns.{same_outcome, machine_stands, stands_taken, plain_run}
pub use Rattle.sk_record.proofs.Merged.{all_kept, merged_run}
pub use Rattle.sk_record.proofs.Sound.{in_entries, is_mark, sound_taken, sound_first, is_fail, has_entry, sound_before}
pub use Rattle.sk_record.proofs.Sound.{sound_commit, undecided_is, entries_are, accepted_last, drawn_more, draws}
pub use Rattle.sk_record.proofs.Sound.{is_commit, tests, is_drawn, record_more, each_event, sound_fail}
pub use Rattle.sk_record.proofs.Statuses.{status_by, none_yet, one_status, status_is}
pub use Rattle.sk_record.proofs.Tidy.{recorded_more, rests_of, grows_of, AllSome, tags_are, tags_are as tags_from}
pub use Rattle.sk_record.proofs.Tidy.{tidy_of}
pub use Rattle.sk_record.proofs.Undecided.{undecided_rises}
pub use Rattle.sk_record.proofs.UndoStates.{tidy_clean}
pub use Rattle.sk_record.proofs.Values.{written_other}
pub use Rattle.sk_record.specs.Effects.{touches, hit, MarkedEffect, is_marked, dirt, dirtied, keep, hits, written_value}
pub use Rattle.sk_record.specs.Effects.{is_in}
pub use Rattle.sk_record.specs.Epoch.{StatusSince, StatusOr, or_since, status_in, EndsAt, IsEpoch}
pub use Rattle.sk_record.specs.Machine.{released_if, Tagged, Fails, RepresentsTrace, Machine, machine_at_start}
pub use Rattle.sk_record.specs.Machine.{rests_on, released, IsPlainRun, took_by, machine_after}
pub use Rattle.sk_record.specs.Merged.{last_of, with_value, MergedCommits, Merges, alone_tags, MergedTakes}
pub use Rattle.sk_record.specs.Merged.{MergedStands, HandsIn, StepsAlone}
pub use Rattle.sk_record.specs.Notes.{last_tags, has, tags_along, Note, next_dirty, noted, without}
pub use Rattle.sk_record.specs.Release.{said_by, IsReleased, said_with}
pub use Rattle.sk_record.specs.Run.{effects, marked_effect, System, after, run, outcome}
pub use Rattle.sk_record.specs.Step.{Effect, perform}
pub use Rattle.sk_record.specs.Strike.{strike}
pub use Rattle.sk_record.specs.Trace.{IsTagOf, deps, Taken, Record, marks, no_record, record_after, undecided_of}
pub use Rattle.sk_record.specs.Trace.{IsSound, Event as Happens, still_marked, IsDrawn, IsAllowed, Commit, all_recorded}
pub use Rattle.sk_record.specs.Trace.{recorded, Fail, StatusIs, record_of}
pub use Rattle.sk_record.specs.UndoState.{step_tags, UndoState, is_tag, IsGrowing, numbers, tags_at as tags_in, IsTidy}
pub use Rattle.sk_record.specs.UndoState.{log_of, Open}
pub use Rattle.sk_record.specs.declared.status.Status.{Status}
pub use Rattle.sk_record.specs.declared.status.Status.TheVariants.{Failed, Committed, Struck, Undecided}
pub use Rattle.sk_script.specs.Boot.{BootView}
pub use Rattle.sk_script.specs.Lease.{after_private, LeaseView}
pub use Rattle.sk_script.specs.Scripts.{ScriptMap}
pub use Rattle.sk_script.specs.declared.instruction.Input.{Input}
pub use Rattle.sk_script.specs.declared.process.Process.{Process}
pub use Rattle.sk_store.proofs.CountedNames.{names_counted, one_count}
pub use Rattle.sk_store.specs.Names.{name_there, names_in, IsCount}
pub use Rattle.sk_store.specs.Processes.{IsProcess}
pub use Rattle.sk_store.specs.Start.{start_of}
pub use Rattle.sk_store.specs.State.{State}
pub use Rattle.sk_store.specs.declared.entity_state.EntityState.{EntityState}
pub use Rattle.sk_terminal.specs.Terminal.{waiting_of, TaggedText}
pub use Rattle.sk_terminal.specs.Terminals.{released_at, texts_at as texts_in, TerminalMap}
pub use Rattle.sk_trace.specs.Entry.{EntryView}
pub use Rattle.sk_trace.specs.Kept.{input_in}
pub use Rattle.sk_trace.specs.declared.event.Event.{Event}
pub use Rattle.sk_record.proofs.Lemmas.{any_no, filter_alike, shorter, last_more}
pub use Rattle.sk_kernel.specs.Calls.{EpochPost, FailPost, GuessPost, CommitPost, StepPost}
pub use Rattle.sk_kernel.specs.HandIn.{HandInPost}
pub use Rattle.sk_kernel.specs.Holder.{HolderView, but, DecidesPost, ids, FailsSome, BeginsPost}
pub use Rattle.sk_kernel.specs.Tokens.{AreUnspent, IsHeld, IsUnspent}
pub use Rattle.sk_kernel.specs.declared.hand_in.HandIn.{HandIn}
pub use Rattle.sk_kernel.specs.declared.hand_in.HandIn.TheVariants.{Stale, Memory}
pub use Rattle.sk_kernel.specs.declared.kernel.EpochRefusal.{EpochRefusal}
pub use Rattle.sk_kernel.specs.declared.kernel.FailRefusal.{FailRefusal}
pub use Rattle.sk_kernel.specs.declared.kernel.Outcome.{Outcome}
pub use Rattle.sk_kernel.specs.declared.kernel.Stranger.{Stranger}
pub use Rattle.sk_record.proofs.Sound.{undecided_is as is_undecided}
pub use Rattle.sk_record.proofs.UndoStates.{and_both}
pub use Rattle.sk_trace.specs.Trace.{TraceView}
pub use Rattle.std.proofs.Common.{drop}
pub use Rattle.std.proofs.lemmas.Bool.{ne_eqb}
pub use Rattle.std.proofs.lemmas.List.{nil_from_length}
pub use Rattle.std.proofs.lemmas.List.Elements.{Contains-push_cases}
pub use Rattle.std.specs.List.{remove}
pub use Rattle.std.specs.Prelude.{IfErr, ◌⊎◌}
