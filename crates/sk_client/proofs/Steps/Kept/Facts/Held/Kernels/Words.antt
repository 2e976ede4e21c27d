-- What the proofs of worlds cite from below. Declares nothing.
pub use Rattle.sk_client.proofs.Names.{list_any, Contains, ◌⊎◌, asked_name, PendingRequest, Entity, Copy, Proc}
pub use Rattle.sk_client.proofs.Names.{LAST_VERSION, Saying, Refusal, is_commit, has, Effect, Input, Answer, Ask}
pub use Rattle.sk_client.proofs.Names.{EntityState, marks, ◌≡◌, ℕ, Bool, true, false, List, [], ◌∷◌, ◌++◌, map, refl}
pub use Rattle.sk_client.proofs.Names.{sym, ◌∙◌, ap, filter, map-append, keep, zero, Option, not, ◌&&◌, Some, None}
pub use Rattle.sk_client.proofs.Names.{Ok, subst, arith, suc, inl, cond, inr, length, ◌≤◌, ◌+◌, ◌<◌, cases_Bool}
pub use Rattle.sk_client.proofs.Names.{eqb-true, eq-eqb, true≢false, or_cases, length-append, ◌==◌, entry, effect_at}
pub use Rattle.sk_client.proofs.Names.{with_event, undecided_at, next_guess, KernelView, events_of, HasSoundTrace}
pub use Rattle.sk_client.proofs.Names.{plain, image, has_filter, is_undecided, StatusIs, Undecided, Logged, Result}
pub use Rattle.sk_client.proofs.Names.{Err, nat_lt, ltb-false, append-nil, StatusOr, LeaseView, TerminalMap}
pub use Rattle.sk_client.proofs.Names.{TraceView, refusal_of, TraceFull, HasStatus, room, or_else, state_at, no_room}
pub use Rattle.sk_client.proofs.Names.{step_misfit, trace_full, step_refused, guess_misfits, too_many, guess_refused}
pub use Rattle.sk_client.proofs.Names.{EpochRefusal, Outcome, All-contains, append_assoc, get, buffer_of, cons_first}
pub use Rattle.sk_client.proofs.Names.{Get, Check, Store, Next, Value, ◌||◌, Contains-push_cases, input_of, sent}
pub use Rattle.sk_client.proofs.Names.{no_member, is_dropped, remembered, Yes, No, Dropped, false_from_ne_true}
pub use Rattle.sk_client.proofs.Names.{slice_get, slice_get-keep, is_undecided as undecided_is, place, or_parts}
pub use Rattle.sk_client.proofs.Names.{or_right, list_any-append, and_both, cons_later, has_commit, get_or, nat_cmp}
pub use Rattle.sk_client.proofs.Names.{is_void, is_lost, rests_of, WorldView, CopyOf, undecided_sorted, tags_at}
pub use Rattle.sk_client.proofs.Names.{Reply, Request as Sent, KeptAnswer, cons_cases, bytes_eq}
pub use Rattle.sk_client.proofs.Names.{is_fitting, ServerView, judged, answer_to, pending, kept_for, kept_after}
pub use Rattle.sk_client.proofs.Names.{asks_for, asks_on, fits_ask, ◌-◌, ltb-true, is_some, request_of, rule_of}
pub use Rattle.sk_client.proofs.Names.{no_number, asked_count, buffer, turned, no_place, rule_refused, DeskView}
pub use Rattle.sk_client.proofs.Names.{ByRule, TurnPost, Turn as Told, Rule, Blocked, le-ltb, given, given_to}
pub use Rattle.sk_client.proofs.Names.{decided, stepped, is_asked, first_taken, taken_by, taken_from, reply_to}
pub use Rattle.sk_client.proofs.Names.{served, AreReplies, Serves, Replies, Turns, EditsFile, EventPost, IsNext}
pub use Rattle.sk_client.proofs.Names.{IsJoined, WorldEvent, WorldAnswer, Cause, length-map, Committed, LAST_REQUEST}
pub use Rattle.sk_client.proofs.Names.{paired, opened_at, slice_get_within, filter-append, FileMap, option_map}
pub use Rattle.sk_client.proofs.Names.{DeskEpochPost}
pub use Rattle.sk_client.proofs.Desks.{Did, none_first, none_later, none_test, ok_of, Each, Pairs, each_keep, pushed}
pub use Rattle.sk_client.proofs.Desks.{each_none, kept_was, survives, at_number, at_same, at_other, pairs_push}
pub use Rattle.sk_client.proofs.Desks.{committed_is, any_map, at_push, at_kept, in_map, filter_was, Fitting}
pub use Rattle.sk_client.proofs.Desks.{answer_suits, asked_more, reply_free, given_reply, Oldest, has_right}
pub use Rattle.sk_client.proofs.Desks.{turn_joined, taken_joined, answer_joined, oldest, given_joined, contains_at}
pub use Rattle.sk_client.proofs.Desks.{out_of_map, begun_joined, taken_same, turn_rest, each_at, place_at}
pub use Rattle.sk_client.proofs.Desks.{no_requests}
pub use Rattle.sk_client.specs.AcceptedStores.{DoesAsked, steps_at, IsStepAt, IsGiven, IsDue, DueStore, StoresStand}
pub use Rattle.sk_client.specs.AcceptedStores.{StoresStood, StandApart}
pub use Rattle.sk_client.specs.AskedSteps.{TakesStep, StepsAreTaken, ForgottenAreDropped}
pub use Rattle.sk_client.specs.Desk.{forgotten, answer_kept, rule_next, cached, fetch_rule, store_rule, unless_kept}
pub use Rattle.sk_client.specs.Desk.{decision_answer, step_answer, given_answer, answer_to as said_to, opened}
pub use Rattle.sk_client.specs.DeskCalls.{RulePost}
pub use Rattle.sk_client.specs.Exchanges.{Exchanges, exchange, exchanged, Leads}
pub use Rattle.sk_client.specs.Ready.{WasBooted, IsTidyState, IsCopy, IsReady, Begins}
pub use Rattle.sk_client.specs.Replied.{PlacesAreKept, Counts as CountsAt, AreRepliedOnce, StepsAreReplied, IsStepOf}
pub use Rattle.sk_client.specs.Replied.{Replied}
pub use Rattle.sk_client.specs.Table.{Bytes, IsNumbered, copy_of, version_of}
pub use Rattle.sk_client.specs.WorldView.{joined}
pub use Rattle.sk_client.specs.Writes.{Write, store_of, stores_of, written_by, writes_of, all_written}
pub use Rattle.sk_client.specs.Writes.{AllFit, AreWritten}
pub use Rattle.sk_client.specs.declared.desk.Given.{Given}
pub use Rattle.sk_guesses.proofs.Statuses.{nothing_in}
pub use Rattle.sk_guesses.specs.Token.{Token}
pub use Rattle.sk_ids.specs.Entity.{entity_cmp}
pub use Rattle.sk_ids.specs.EntityLemma.{entity_exact, entity_total}
pub use Rattle.sk_kernel.proofs.Further.{epoch_commit, epoch_fail, epoch_guess, epoch_step}
pub use Rattle.sk_kernel.proofs.HandedIn.{images_more, no_step, stands_handed}
pub use Rattle.sk_kernel.proofs.Lawful.{below_next}
pub use Rattle.sk_kernel.proofs.Opens.{decided_shut, open_taken, open_commit, open_fail, has_filtered, mark_has}
pub use Rattle.sk_kernel.proofs.Undecided.{undecided_is as open_is}
pub use Rattle.sk_kernel.specs.Calls.{StepPost, GuessPost, CommitPost, FailPost, IsNextEpoch, EpochPost}
pub use Rattle.sk_kernel.specs.HandIn.{IsAsLent, HandInPost, TakesIn, alone_step, with_steps}
pub use Rattle.sk_kernel.specs.Kernel.{booted, record_at, settled, number_after, last_guess, is_other, or_full}
pub use Rattle.sk_kernel.specs.declared.hand_in.HandIn.{HandIn}
pub use Rattle.sk_kernel.specs.declared.kernel.FailRefusal.{FailRefusal}
pub use Rattle.sk_kernel.specs.declared.kernel.Stranger.{Stranger}
pub use Rattle.sk_objects.specs.Content.{ContentView}
pub use Rattle.sk_plain.proofs.Rows.{IsOf, CanWrite, one_of_two, only_one}
pub use Rattle.sk_plain.proofs.Runs.{plain_tidy, found, IsAt, IsFree, next_turn, store_at, turn_at, steps_on}
pub use Rattle.sk_plain.proofs.Runs.{fetch_at}
pub use Rattle.sk_plain.proofs.Tidy.{tidy_start, IsNextChild, unborn}
pub use Rattle.sk_plain.specs.Act.{act, Scripts, with_input, next_in}
pub use Rattle.sk_plain.specs.Leased.{alone_reads}
pub use Rattle.sk_plain.specs.Next.{next_of}
pub use Rattle.sk_plain.specs.Replies.{over_copy, from_copy, fetched}
pub use Rattle.sk_plain.specs.Rows.{failed, with_write, answered}
pub use Rattle.sk_plain.specs.declared.refusal.Errno.TheVariants.{StaleCopy}
pub use Rattle.sk_plain.specs.declared.refusal.Refusal.TheVariants.{Mismatch}
pub use Rattle.sk_record.proofs.Chains.{dirt_is, in_from}
pub use Rattle.sk_record.proofs.Later.{dirtied_other}
pub use Rattle.sk_record.proofs.Laws.{one_status}
pub use Rattle.sk_record.proofs.Lemmas.{shorter}
pub use Rattle.sk_record.proofs.Machine.{run_append, unmarked_hits, own_dirt}
pub use Rattle.sk_record.proofs.MachineRuns.{machine_stands}
pub use Rattle.sk_record.proofs.Merged.{all_kept}
pub use Rattle.sk_record.proofs.Rising.{above}
pub use Rattle.sk_record.proofs.Sets.{get-put_all_other}
pub use Rattle.sk_record.proofs.Sound.{entries_are, sound_taken, sound_fail, sound_commit, sound_first, any_from}
pub use Rattle.sk_record.proofs.Sound.{marked_is, has_entry, is_drawn, mark_is, tests, drawn_more, record_more}
pub use Rattle.sk_record.proofs.Sound.{fresh_from}
pub use Rattle.sk_record.proofs.Struck.{later_dep, later, struck_runs, footprint}
pub use Rattle.sk_record.proofs.Tidy.{recorded_more}
pub use Rattle.sk_record.proofs.UndoStates.{any_at, has_more}
pub use Rattle.sk_record.specs.Effects.{hits, dirt, is_in, hit, dirtied, MarkedEffect, touches}
pub use Rattle.sk_record.specs.Epoch.{status_in}
pub use Rattle.sk_record.specs.Machine.{Machine, machine_after}
pub use Rattle.sk_record.specs.Merged.{MergedStands, HandsIn, alone_tags, with_value}
pub use Rattle.sk_record.specs.Notes.{noted}
pub use Rattle.sk_record.specs.Run.{run, System, outcome, effects, after, marked_effect, IsLegal}
pub use Rattle.sk_record.specs.Step.{Step, Refuse, perform, with_read}
pub use Rattle.sk_record.specs.Strike.{struck, strike}
pub use Rattle.sk_record.specs.Trace.{Event, record_of, undecided_of, Taken, Commit, Fail, Record, recorded}
pub use Rattle.sk_record.specs.Trace.{all_recorded, no_record, still_marked, IsDrawn, IsSound, Event as Happens}
pub use Rattle.sk_record.specs.Trace.{HasEntry, IsAllowed, record_after}
pub use Rattle.sk_record.specs.declared.status.Status.TheVariants.{Failed}
pub use Rattle.sk_script.specs.Boot.{BootView}
pub use Rattle.sk_script.specs.Lease.{after_private}
pub use Rattle.sk_script.specs.declared.instruction.Input.TheVariants.{Good, Stale, Fresh}
pub use Rattle.sk_script.specs.declared.instruction.Instruction.{Instruction}
pub use Rattle.sk_script.specs.declared.process.Process.{Process}
pub use Rattle.sk_server.specs.Files.{written}
pub use Rattle.sk_server.specs.Server.{refused_by, files_after}
pub use Rattle.sk_store.specs.State.{State}
pub use Rattle.sk_trace.specs.Entry.{EntryView}
pub use Rattle.std.proofs.Common.{Ordering, is_ok, replicate, IsSome, nat_le, le_trans, is_none, fold}
pub use Rattle.std.proofs.Math.Bool.{and-true}
pub use Rattle.std.proofs.lemmas.Bool.{lt-ltb, le-leb, true_from_ne_false, or_left, or_from, not-true, cases_eq}
pub use Rattle.std.proofs.lemmas.Bool.{leb-true}
pub use Rattle.std.proofs.lemmas.List.{length-replicate}
pub use Rattle.std.proofs.lemmas.List.Elements.{Contains-append_cases, All-replicate, Contains-push}
pub use Rattle.std.proofs.lemmas.List.Elements.{Contains-append_left, Contains-append_right}
pub use Rattle.std.proofs.lemmas.List.Sums.{fold-append}
pub use Rattle.std.proofs.lemmas.Option.{slice_get-map}
pub use Rattle.std.proofs.lemmas.Slice.Eq.{bytes_eq-Decides}
pub use Rattle.std.specs.Cmp.{IsTotalOrder}
pub use Rattle.std.specs.FinMap.{IsAntisymmetric, FinMap}
pub use Rattle.std.specs.Ordering.{eq_by_cmp}
