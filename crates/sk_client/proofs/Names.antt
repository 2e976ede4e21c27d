-- What the proofs of this crate cite from outside of them, passed on from one place. Declares nothing.
pub use Rattle.std.proofs.Common.{Some, Bool, subst, ◌-◌, arith, ◌++◌, suc, refl, [], map, ◌∷◌, inl, Option, List}
pub use Rattle.std.proofs.Common.{tests, get_or, ℕ, true, sym, not, cond, inr, zero, rules, ap, Bor, length, ◌≤◌}
pub use Rattle.std.proofs.Common.{take, false, set, Ok, ◌&&◌, Err, ◌≡◌, ◌+◌, ◌||◌, drop, None, ◌<◌, Result, ◌∙◌}
pub use Rattle.std.proofs.Common.{filter, Contains, option_map, nat_cmp, ◌↔◌, ◌==◌, bytes_eq, ◌⊎◌, is_some, slice_get}
pub use Rattle.std.proofs.Common.{All, IfOk, nat_lt, vec_capacity, append_assoc, append-nil}
pub use Rattle.std.proofs.Math.Bool.{and-false}
pub use Rattle.std.proofs.lemmas.Bool.{cases_Bool, or_right, or_parts, eqb-true, ltb-true, false_from_ne_true, eq-eqb}
pub use Rattle.std.proofs.lemmas.Bool.{ltb-false, true≢false, or_cases, le-ltb}
pub use Rattle.std.proofs.lemmas.Fn.{filter_same}
pub use Rattle.std.proofs.lemmas.Iterator.Consumers.{YieldsList-from_deque}
pub use Rattle.std.proofs.lemmas.Iterator.Search.{any_from_yields_List}
pub use Rattle.std.proofs.lemmas.List.{drop_more, drop_all, length-map, map-append, take-append-drop, length-append}
pub use Rattle.std.proofs.lemmas.List.{take_more, map-set, set-get_or, drop-set-lt, take_all, drop-append-le}
pub use Rattle.std.proofs.lemmas.List.{get_or_at, get_or-map, drop-map, length-set, nil_from_length}
pub use Rattle.std.proofs.lemmas.List.Elements.{All-head, All-tail, Contains-push_cases, All-more, filter-append}
pub use Rattle.std.proofs.lemmas.List.Elements.{All-push, All-filter, All-map, All-contains, All-contains_itself}
pub use Rattle.std.proofs.lemmas.List.Elements.{All-weaker}
pub use Rattle.std.proofs.lemmas.List.Folds.{list_any-append}
pub use Rattle.std.proofs.lemmas.List.Kept.{IsStrictlySortedBy-filter}
pub use Rattle.std.proofs.lemmas.List.Sums.{length-filter, count_by-le-length}
pub use Rattle.std.proofs.lemmas.Option.{slice_get_within, get_or_from_slice_get, slice_get-get_or}
pub use Rattle.std.specs.Cmp.{both_ways}
pub use Rattle.std.specs.FinMap.{get}
pub use Rattle.std.specs.List.{list_any}
pub use Rattle.std.specs.List.Sorted.{IsStrictlySortedBy}
pub use Rattle.std.specs.declared.alloc.AllocError.{AllocError}
pub use Rattle.sk_client.specs.AcceptedStores.{paired}
pub use Rattle.sk_client.specs.Desk.{commits, request_of, is_void, is_lost, asks_on, rule_of, first_taken}
pub use Rattle.sk_client.specs.Desk.{rule, lost_by, first_sent, given, answered, given_to, no_number, asked_count}
pub use Rattle.sk_client.specs.Desk.{decided, input_of, pending, decision, buffer, opened_at, rests_of, asks_for}
pub use Rattle.sk_client.specs.Desk.{sent, entry, kept_for, first_guess, kept_after, stepped, fits_ask, turned}
pub use Rattle.sk_client.specs.Desk.{no_place, rule_refused, guess_refused_at, answered as stepped_for, DeskView}
pub use Rattle.sk_client.specs.Desk.{is_asked, Rule}
pub use Rattle.sk_client.specs.DeskCalls.{DeskEpochPost, ByRule, TurnPost}
pub use Rattle.sk_client.specs.DeskInvariant.{IsTidy, guesses_of}
pub use Rattle.sk_client.specs.Leasing.{unless_asked, blocked_why, desk_lease}
pub use Rattle.sk_client.specs.Requests.{requests_in, IsQueue, RequestsView, IsWhole}
pub use Rattle.sk_client.specs.Table.{HasNumber, buffer_of}
pub use Rattle.sk_client.specs.Upcoming.{reply_step, upcoming, turn_step, first_reply_step}
pub use Rattle.sk_client.specs.Wish.{brought}
pub use Rattle.sk_client.specs.WorldView.{served, ServesNext, Turns, taken_from, Numbered, IsJoined, IsNext}
pub use Rattle.sk_client.specs.WorldView.{WorldEpochPost, EditsFile, RunsTo, EventPost, AreReplies, taken_by}
pub use Rattle.sk_client.specs.WorldView.{WorldView, Serves, Replies, reply_to}
pub use Rattle.sk_client.specs.declared.desk.Turn.{Turn}
pub use Rattle.sk_client.specs.declared.pending.KeptAnswer.{KeptAnswer}
pub use Rattle.sk_client.specs.Pending.{PendingRequest, ask_of}
pub use Rattle.sk_client.specs.declared.requests.Queued.{Queued}
pub use Rattle.sk_client.specs.declared.world.Cause.{Cause}
pub use Rattle.sk_client.specs.declared.world.WorldAnswer.{WorldAnswer}
pub use Rattle.sk_trace.specs.declared.world_event.WorldEvent.{WorldEvent}
pub use Rattle.sk_client.specs.declared.world.WorldStop.{WorldStop}
pub use Rattle.sk_kernel.specs.Holder.{HolderView, DecidesPost}
pub use Rattle.sk_ids.specs.declared.entity.Entity.{Entity}
pub use Rattle.sk_ids.specs.declared.entity.Entity.TheVariants.{Copy, Copy as CopyOf, Proc}
pub use Rattle.sk_kernel.proofs.Appended.{IsForeseen, appended_foreseen, unchanged_foreseen}
pub use Rattle.sk_kernel.proofs.Undecided.{undecided_sorted}
pub use Rattle.sk_kernel.specs.Calls.{LeavesTexts}
pub use Rattle.sk_kernel.specs.Footprint.{appended}
pub use Rattle.sk_kernel.specs.Kernel.{effect_at, state_at, room, no_room, with_event, undecided_at, step_refused}
pub use Rattle.sk_kernel.specs.Kernel.{trace_full, tags_at, guess_refused, HasStatus, next_guess, KernelView, crowded}
pub use Rattle.sk_kernel.specs.Kernel.{step_misfit, too_many, or_else, guess_misfits, events_of}
pub use Rattle.sk_kernel.specs.Laws.{HasSoundTrace}
pub use Rattle.sk_kernel.specs.Opening.{OpeningView}
pub use Rattle.sk_kernel.specs.declared.kernel.EpochRefusal.{EpochRefusal}
pub use Rattle.sk_kernel.specs.declared.kernel.Outcome.{Outcome}
pub use Rattle.sk_objects.specs.declared.content.TheConstants.{LAST_VERSION}
pub use Rattle.sk_objects.specs.declared.value.Value.{Value}
pub use Rattle.sk_plain.proofs.Adds.{NoneAdded, reply_adds}
pub use Rattle.sk_record.proofs.Lemmas.{cons_cases, cons_first, cons_later, no_member}
pub use Rattle.sk_plain.specs.Act.{Saying, plain}
pub use Rattle.sk_plain.specs.Leased.{lease_of, Lends}
pub use Rattle.sk_plain.specs.Planned.{IsReply, refusal_of}
pub use Rattle.sk_plain.specs.Refusal.{cause}
pub use Rattle.sk_plain.specs.Replay.{image}
pub use Rattle.sk_plain.specs.View.{Shows}
pub use Rattle.sk_plain.specs.declared.next.Next.{Next}
pub use Rattle.sk_plain.specs.declared.refusal.Refusal.{Refusal}
pub use Rattle.sk_plain.specs.declared.refusal.Refusal.TheVariants.{Blocked, TooMany, TraceFull}
pub use Rattle.sk_record.proofs.Chains.{slice_get-keep}
pub use Rattle.sk_record.proofs.Epoch.{beyond}
pub use Rattle.sk_record.proofs.Machine.{has_filter}
pub use Rattle.sk_record.proofs.Rising.{same_rising}
pub use Rattle.sk_record.proofs.Sound.{has_commit, undecided_is as is_undecided, is_commit}
pub use Rattle.sk_record.proofs.Statuses.{one_status}
pub use Rattle.sk_record.proofs.UndoStates.{and_both}
pub use Rattle.sk_record.specs.Effects.{place, keep}
pub use Rattle.sk_record.specs.Epoch.{StatusOr}
pub use Rattle.sk_record.specs.Notes.{has}
pub use Rattle.sk_record.specs.Step.{Effect}
pub use Rattle.sk_record.specs.Trace.{StatusIs, marks}
pub use Rattle.sk_record.specs.declared.status.Status.{Status}
pub use Rattle.sk_record.specs.declared.status.Status.TheVariants.{Committed, Undecided}
pub use Rattle.sk_script.specs.Lease.{LeaseView}
pub use Rattle.sk_script.specs.declared.boot.BootProcess.{BootProcess}
pub use Rattle.sk_script.specs.declared.instruction.Input.{Input}
pub use Rattle.sk_server.specs.Files.{file_of, FileMap, is_fitting}
pub use Rattle.sk_server.specs.Lent.{request_in}
pub use Rattle.sk_server.specs.Server.{is_dropped, judged, remembered, ServerView, answer_to}
pub use Rattle.sk_server.specs.Verdict.{asked_name}
pub use Rattle.sk_server.specs.declared.reply.Answer.{Answer}
pub use Rattle.sk_server.specs.declared.reply.Answer.TheVariants.{Yes, No, Dropped}
pub use Rattle.sk_server.specs.declared.reply.Reply.{Reply}
pub use Rattle.sk_server.specs.declared.request.Ask.{Ask}
pub use Rattle.sk_server.specs.declared.request.Ask.TheVariants.{Get, Check, Store}
pub use Rattle.sk_server.specs.declared.request.Request.{Request}
pub use Rattle.sk_server.specs.declared.server.TheConstants.{LAST_REQUEST}
pub use Rattle.sk_store.specs.declared.entity_state.EntityState.{EntityState}
pub use Rattle.sk_terminal.specs.Terminals.{released_at, TerminalMap}
pub use Rattle.sk_trace.specs.Kept.{input_in}
pub use Rattle.sk_trace.specs.Trace.{TraceView}
pub use Rattle.sk_trace.specs.declared.event.Event.{Event as Logged}
