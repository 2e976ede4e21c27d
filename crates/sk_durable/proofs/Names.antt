-- What the proofs of this crate cite from outside of them, passed on from one place. Declares nothing.
pub use Rattle.std.proofs.Math.Bool.{or-false}
pub use Rattle.std.proofs.Common.{Some, Bool, subst, ◌^◌, ◌-◌, ◌↔◌, arith, ◌++◌, append_assoc, length-append, suc}
pub use Rattle.std.proofs.Common.{refl, [], map, ◌≢◌, ◌∷◌, inl, Option, List, get_or, bytes_eq, get_or-set_other, ℕ}
pub use Rattle.std.proofs.Common.{true, ⊎_elim, sym, is_some, not, cond, get_or-set_same, inr, zero, rules, ap}
pub use Rattle.std.proofs.Common.{length, ◌≤◌, take, false, Ok, ◌&&◌, Err, ◌≡◌, ◌+◌, ◌||◌, drop, None, min, ◌<◌}
pub use Rattle.std.proofs.Common.{flat_map, Result, ◌∙◌}
pub use Rattle.std.proofs.lemmas.Bool.{or_right, lt-ltb, or_parts, leb-true, eqb-true, false_from_ne_true, eq-eqb}
pub use Rattle.std.proofs.lemmas.Bool.{eqb-false, cases_eq, or_from, and_parts, ltb-false, and_from, cases_lt}
pub use Rattle.std.proofs.lemmas.Bool.{true≢false, lt-leb, or_cases, or_left, leb-false, le-leb, false≢true, le-ltb}
pub use Rattle.std.proofs.lemmas.Bool.{not-true}
pub use Rattle.std.proofs.lemmas.Bool.Decides.{nat_tests}
pub use Rattle.std.proofs.lemmas.Cmp.{nat_list_eq_equiv}
pub use Rattle.std.proofs.lemmas.List.{length-take-le, length-map, map-append, take-append-drop, take-map}
pub use Rattle.std.proofs.lemmas.List.{length-replicate, append_cancel_left, append-nil, set-get_or, take_at}
pub use Rattle.std.proofs.lemmas.List.{get_or_past, get_or-map}
pub use Rattle.std.proofs.lemmas.List.Concat.{flat_map-append}
pub use Rattle.std.proofs.lemmas.List.Elements.{All-contains_itself, Contains-push, All-from_recursion}
pub use Rattle.std.proofs.lemmas.List.Elements.{Contains-push_cases, Contains-append_cases, Contains-append_left}
pub use Rattle.std.proofs.lemmas.List.Elements.{All-contains, recursion_from_All, All-weaker, Contains-append_right}
pub use Rattle.std.proofs.lemmas.List.Elements.{filter-append}
pub use Rattle.std.proofs.lemmas.List.Folds.{Any-from_list_any, list_any-append}
pub use Rattle.std.proofs.lemmas.List.Sorted.{IsPermutation-map, list_any-IsPermutation}
pub use Rattle.std.proofs.lemmas.List.Sums.{fold-append}
pub use Rattle.std.proofs.lemmas.Map.Keys.{IsDistinct-IsPermutation, apart_from_distinct, IsDistinct-push}
pub use Rattle.std.proofs.lemmas.Map.Keys.{sorted_from_all_adjacent}
pub use Rattle.std.proofs.lemmas.Map.Text.{is_eq-slice_cmp}
pub use Rattle.std.proofs.lemmas.Option.{slice_get_within, slice_get-map, none-some, same_Some}
pub use Rattle.std.proofs.lemmas.Result.{err_from_is_err_and}
pub use Rattle.std.proofs.lemmas.Slice.Eq.{bytes_eq-Decides}
pub use Rattle.std.specs.Cmp.{both_ways}
pub use Rattle.std.specs.FinMap.{get, FinMap, get-from_sorted, from_sorted}
pub use Rattle.std.specs.Global.{Vec}
pub use Rattle.std.specs.Int.NonZero.{non_zero_u16_get}
pub use Rattle.std.specs.List.{list_any, remove, AllByRecursion, fold, filter, Contains}
pub use Rattle.std.specs.List.Sorted.{IsStrictlySortedBy, IsPermutation, IsSortedByKey, IsSorted}
pub use Rattle.std.specs.Option.{option_or, option_map}
pub use Rattle.std.specs.Ordering.{is_eq, eq_by_cmp, is_lt, ordering_reverse}
pub use Rattle.std.specs.Prelude.{◌==◌, T, slice_index_or, ◌⊎◌, if◌then◌else◌, unwrap_or, slice_get, IfSome, OnErr}
pub use Rattle.std.specs.Prelude.{OnOk, nat_le, nat_lt}
pub use Rattle.std.specs.Result.{IsErr, is_err, IsErrAnd}
pub use Rattle.std.specs.Vec.{vec_items}
pub use Rattle.std.specs.declared.cmp.Ordering.{Ordering}
pub use Rattle.std.specs.declared.cmp.Ordering.TheVariants.{Less, Greater, Equal}
pub use Rattle.sk_batched.proofs.Answering.{capped_small}
pub use Rattle.sk_batched.proofs.Law.{spares_named}
pub use Rattle.sk_batched.proofs.Moves.{looks_as_before, Spares}
pub use Rattle.sk_batched.proofs.Queues.{oldest_committed, IsNumbered, requeued, same_seen, step_taken, cut_kept}
pub use Rattle.sk_batched.proofs.Queues.{word_kept, new_in_step, decided_first, taken, oldest_failed, begins}
pub use Rattle.sk_batched.proofs.Queues.{batch_of, said_less}
pub use Rattle.sk_batched.proofs.Same.{all_same, same_statuses, same_machine}
pub use Rattle.sk_batched.proofs.Touched.{any_touched}
pub use Rattle.sk_batched.specs.Batched.{in_batch, Stays, LogPost, IsEmpty, log_refused, IsStill, is_touched, opening}
pub use Rattle.sk_batched.specs.Batched.{capped, is_full, Begins}
pub use Rattle.sk_batched.specs.InStep.{IsInStep, notes_by, open_numbers, IsRow}
pub use Rattle.sk_batched.specs.Keys.{has_reserved_key}
pub use Rattle.sk_batched.specs.Refused.{step_refused, refusal_of}
pub use Rattle.sk_batched.specs.declared.batched.Outcome.TheVariants.{Logged as LoggedBatch, Logged}
pub use Rattle.sk_batched.specs.declared.refusal.Refusal.TheVariants.{Reserved}
pub use Rattle.sk_batches.proofs.Dense.{cut_into, all_both, all_of, dense_at, CutInto, frames_are_dense, cuts_a_range}
pub use Rattle.sk_batches.proofs.Dense.{of_all}
pub use Rattle.sk_batches.proofs.Order.{cut_number, sent_number}
pub use Rattle.sk_batches.proofs.Synced.{logs_what_is_synced, failed_unkept, sent_unkept, stays_below, decided_synced}
pub use Rattle.sk_batches.specs.Calls.{new_queue, append_refused, is_busy, take_refused, has_no_number, WordPost}
pub use Rattle.sk_batches.specs.Dense.{IsRange, AreDense, IsBehind, IsAtCut}
pub use Rattle.sk_batches.specs.Frames.{frame_refused, next_payload}
pub use Rattle.sk_batches.specs.Places.{has_room, PlacesView, next_segment}
pub use Rattle.sk_batches.specs.Queue.{open_batch, is_kept, is_awaited, is_sent, is_decided, is_taken, left}
pub use Rattle.sk_batches.specs.Queue.{next_records, decided as decided_batch, after_take, kept_of, is_failed}
pub use Rattle.sk_batches.specs.Queue.{decision_of, after_word, QueueView, cut_due, tell, send, after_cut, is_refused}
pub use Rattle.sk_batches.specs.Queue.{kept_records}
pub use Rattle.sk_batches.specs.Records.{payload, RecordView}
pub use Rattle.sk_batches.specs.Runs.{Story, no_story, story_after, synced_after}
pub use Rattle.sk_batches.specs.declared.batch.Batch.{Batch}
pub use Rattle.sk_batches.specs.declared.batch.Stage.{Stage}
pub use Rattle.sk_batches.specs.declared.batch.Stage.TheVariants.{Kept, Sent, Failed, Synced, Refused}
pub use Rattle.sk_batches.specs.declared.queue.Cut.{Cut}
pub use Rattle.sk_batches.specs.declared.queue.Decision.{Decision}
pub use Rattle.sk_batches.specs.declared.refusal.Refusal.{Refusal as Why, Refusal as Queued}
pub use Rattle.sk_bytes.proofs.Told.{bytes_total, bytes_exact}
pub use Rattle.sk_bytes.specs.Calls.{HasPlaces, has_long_key}
pub use Rattle.sk_bytes.specs.Steps.{byte_deed}
pub use Rattle.sk_bytes.specs.Told.{IsTwoWay}
pub use Rattle.sk_bytes.specs.declared.bytes.TheConstants.{KEY_LIMIT}
pub use Rattle.sk_channels.specs.Asking.{AskInTurn, ComesTo, with_words, is_hosts, Asks}
pub use Rattle.sk_channels.specs.Hearing.{HoldsWith, IsHeard, posed_ticket, only_posed}
pub use Rattle.sk_channels.specs.Serving.{RefusePost, FeedPost as Feeds, ReplyPost, HasServed}
pub use Rattle.sk_channels.specs.Table.{hung_up, place_at, channel_of, with_channel, KeepsOthers, channel_at}
pub use Rattle.sk_channels.specs.Telling.{Told, refused, refused_up_to}
pub use Rattle.sk_channels.specs.declared.channel.Channel.{Channel}
pub use Rattle.sk_channels.specs.declared.inlet.Ask.{Ask}
pub use Rattle.sk_channels.specs.declared.inlet.Ask.TheVariants.{Do, Reject}
pub use Rattle.sk_channels.specs.declared.inlet.Asked.{Asked as OneAsked}
pub use Rattle.sk_channels.specs.declared.inlet.Fed.{Fed as FedBytes}
pub use Rattle.sk_channels.specs.declared.inlet.Inlet.{Inlet}
pub use Rattle.sk_channels.specs.declared.rejection.Rejection.{Rejection}
pub use Rattle.sk_channels.specs.declared.table.Channels.{Channels, Channels as Table}
pub use Rattle.sk_commands.proofs.Works.{what_is_said}
pub use Rattle.sk_commands.specs.Requests.{IsReplyOrAsked, log_text, WaitsSaid, IsAsked, AreAsked}
pub use Rattle.sk_commands.specs.Table.{Have, is_among, Written}
pub use Rattle.sk_commands.specs.Texts.{answer_text}
pub use Rattle.sk_commands.specs.Work.{with_value, may_write_some, after, comes_to, looks_at}
pub use Rattle.sk_commands.specs.declared.reply.Reply.TheVariants.{Null, Text}
pub use Rattle.sk_commands.specs.declared.session.Queue.{Queue}
pub use Rattle.sk_commands.specs.declared.work.Answer.{Answer}
pub use Rattle.sk_commands.specs.declared.work.Work.{Work}
pub use Rattle.sk_commands.specs.declared.work.Work.TheVariants.{Say}
pub use Rattle.sk_deeds.proofs.Runs.{performs}
pub use Rattle.sk_deeds.specs.Deed.{again, Deed, effect_of}
pub use Rattle.sk_deeds.specs.Moves.{Moves, Starts, IsNext}
pub use Rattle.sk_deeds.specs.Told.{TakenOut, Tells as TellsOut, told_more, moves_of, Does as DoesMove}
pub use Rattle.sk_durable.specs.Asked.{long_key_words, reserved_words, error, told_work, work_of}
pub use Rattle.sk_durable.specs.Calls.{AsksFor, LeavesIt, Hands, Draws, Connects, Rests, Drops, Turns, Cuts, Decides}
pub use Rattle.sk_durable.specs.Calls.{Does, Carries, Stops, Tells, MayBeTold, Call, Sends, Frees, SameBatches, IsFor}
pub use Rattle.sk_durable.specs.Calls.{Declines, HangsUp, Hears, Learns, Serves, Draws as DrawsGuess, Refuses, IsDone}
pub use Rattle.sk_durable.specs.Calls.{Passes}
pub use Rattle.sk_durable.specs.History.{carried_from, carried_after, Command, carried_by, frames, carried, frames_by}
pub use Rattle.sk_durable.specs.History.{decided as told_decided, failed, stands, past_after, past_from, synced}
pub use Rattle.sk_durable.specs.History.{stands_on, decided, is_logged, logged, synced_by, past, synced_from, entries}
pub use Rattle.sk_durable.specs.History.{frames_from, decided_by, cut_off}
pub use Rattle.sk_durable.specs.Laws.{LetsGoJustWhatMay, IsAnswered, ChannelsLetGoJustWhatMay, IsToldRight}
pub use Rattle.sk_durable.specs.Laws.{TicketsAreToldRight, IsGone, HasDone, CrashesAreRecovered, said_to as says_to}
pub use Rattle.sk_durable.specs.Laws.{IsLogged, Waits, LoggedIsOnDisk, MapIsPlain, AnswersArePlain}
pub use Rattle.sk_durable.specs.Limits.{are_sound}
pub use Rattle.sk_durable.specs.Posts.{RefusedPost, PosedPost, LetGoPost, OutputPost, TakePost, Sweeps}
pub use Rattle.sk_durable.specs.Posts.{is_posed, HandsOver, HasNoneReady, TellPost, has_refused}
pub use Rattle.sk_durable.specs.Posts.{RestorePost, BringPost, LearnPost, LetsGo, TryPost, ReadyPost, FreesIfLast}
pub use Rattle.sk_durable.specs.Posts.{MayFeed, IsStray, end_of, CutPost, HoldsTooMany, AnswerPost, IsHeldUp}
pub use Rattle.sk_durable.specs.Posts.{ConnectPost, drops, StopsThere, IsReady, tells, HangUpPost, TurnPost}
pub use Rattle.sk_durable.specs.Refused.{channel_refused}
pub use Rattle.sk_durable.specs.Store.{Past, Becomes, was_told, has_refusals, IsNew, bound, asked_for}
pub use Rattle.sk_durable.specs.Store.{was_refused, HasPast, no_past, StoreView, came, was_handed, Goes, HavePasts}
pub use Rattle.sk_durable.specs.Store.{first_answer}
pub use Rattle.sk_durable.specs.Works.{CarryPost, against, Kernel, touched, batch_for, LetsOut, TakesAlone, has_now}
pub use Rattle.sk_durable.specs.Works.{Batches, IsAhead, LacksNone, IsNotRestored, names_wrong, IsHanded, MayDraw}
pub use Rattle.sk_durable.specs.Works.{Restores, TakenIn, deed_now, ahead_in, asked_by, CarriesOut, WorkStep}
pub use Rattle.sk_durable.specs.Works.{KnowsIfTold, IsTold, ahead_of, IsNotDone}
pub use Rattle.sk_durable.specs.contracts.store.Store.{the_view}
pub use Rattle.sk_durable.specs.declared.limits.Limits.{Limits}
pub use Rattle.sk_durable.specs.declared.refusal.NotDone.{NotDone}
pub use Rattle.sk_durable.specs.declared.refusal.NotDone.TheVariants.{Memory, Full, LongKey}
pub use Rattle.sk_durable.specs.declared.refusal.Refusal.{Refusal}
pub use Rattle.sk_durable.specs.declared.refusal.Refusal.TheVariants.{NoChannel, DecisionDue, NoTicket}
pub use Rattle.sk_durable.specs.declared.store.End.{End}
pub use Rattle.sk_durable.specs.declared.store.Next.{Next}
pub use Rattle.sk_durable.specs.declared.store.Store.TheInside.{Inside}
pub use Rattle.sk_durable.specs.declared.works.Asker.{Asker}
pub use Rattle.sk_durable.specs.declared.works.TheConstants.{NOBODY}
pub use Rattle.sk_guesses.proofs.Opens.{open_is}
pub use Rattle.sk_guesses.specs.Kept.{AreStatuses}
pub use Rattle.sk_guesses.specs.Token.{Token}
pub use Rattle.sk_index.proofs.Strings.{same_bytes}
pub use Rattle.sk_index.specs.Index.{Numbered, bytes_cmp, number_of, string_of}
pub use Rattle.sk_log.specs.declared.frame.TheConstants.{NUMBER_LIMIT}
pub use Rattle.sk_outputs.specs.Said.{said_at, Said, first_of}
pub use Rattle.sk_plain_store.proofs.Kept.{bytes_same, stays_in_order, holds_written}
pub use Rattle.sk_plain_store.specs.Plain.{keys_of, Entries, held}
pub use Rattle.sk_record.proofs.Machine.{has_filter}
pub use Rattle.sk_record.proofs.Merged.{none_left, same_last}
pub use Rattle.sk_record.proofs.Sound.{eqb_turned}
pub use Rattle.sk_record.specs.Effects.{MarkedEffect, is_marked, written_value, is_in}
pub use Rattle.sk_record.specs.Machine.{Tagged, released, with_failure, with_status, released_if, with_drawn}
pub use Rattle.sk_record.specs.Merged.{MergedTakes}
pub use Rattle.sk_record.specs.Notes.{last_tags, has, Note, noted}
pub use Rattle.sk_record.specs.Release.{said_by}
pub use Rattle.sk_record.specs.Run.{marked_effect}
pub use Rattle.sk_record.specs.Step.{Effect}
pub use Rattle.sk_record.specs.Trace.{Event, Fail, record_of, Taken, marks, record_after, Commit}
pub use Rattle.sk_record.specs.UndoState.{is_tag, numbers, tags_at, step_tags}
pub use Rattle.sk_record.specs.declared.status.Status.{Status}
pub use Rattle.sk_replay.proofs.Framed.{restore}
pub use Rattle.sk_replay.proofs.Short.{short_is_within}
pub use Rattle.sk_replay.specs.Frames.{AreLogged, payloads_of, works_in, SayAll}
pub use Rattle.sk_replay.specs.Snapshot.{after_works, after_work}
pub use Rattle.sk_requests.specs.declared.limits.Limits.{Limits as ReaderLimits, Limits as Requests}
pub use Rattle.sk_reserved.specs.Keys.{is_reserved, batch_key}
pub use Rattle.sk_rests.proofs.Ends.{as_logged, range_struck}
pub use Rattle.sk_rests.proofs.Idle.{part_is_kept}
pub use Rattle.sk_rests.proofs.Lists.{failed_more, kept_more}
pub use Rattle.sk_rests.specs.Laws.{IsSaid, IsAsLogged}
pub use Rattle.sk_rests.specs.Logged.{is_struck, said_to, failed_in, Logs, kept, resting_among, kept as kept_log}
pub use Rattle.sk_served.proofs.Called.{calls_plain}
pub use Rattle.sk_served.proofs.Free.{free_after, work_free}
pub use Rattle.sk_served.proofs.Known.{alone_work, more_known, store_knows}
pub use Rattle.sk_served.proofs.Steps.{acts}
pub use Rattle.sk_served.specs.Calls.{IsProper, StoreCalls, Out}
pub use Rattle.sk_served.specs.Known.{KnowsAll}
pub use Rattle.sk_served.specs.Laws.{HoldsSame}
pub use Rattle.sk_served.specs.Names.{names_reserved}
pub use Rattle.sk_served.specs.Plain.{replies_to, entry_after, entries_after, reply_to}
pub use Rattle.sk_served.specs.Served.{Opens, Runs, batch_keys, served, deed, Entry, Asked}
pub use Rattle.sk_slots.specs.Slots.{look_at, log_at}
pub use Rattle.sk_speculator.specs.Calls.{Takes, next_of, FailsIn, Commits}
pub use Rattle.sk_speculator.specs.Law.{TakesOut}
pub use Rattle.sk_speculator.specs.Parts.{machine_of, undo_state_of, IsSame, Parts}
