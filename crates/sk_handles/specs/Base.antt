-- The names of other crates, and of the types of this one, that definitions and clauses cite. Declares nothing.
pub use Rattle.sk_batched.specs.declared.batched.Outcome.{Outcome}
pub use Rattle.sk_batches.specs.Frames.{next_payload}
pub use Rattle.sk_batches.specs.Queue.{cut_due, in_flight, undecided}
pub use Rattle.sk_batches.specs.declared.frames.Sealed.{Sealed}
pub use Rattle.sk_batches.specs.declared.queue.Cut.{Cut}
pub use Rattle.sk_batches.specs.declared.refusal.Refusal.{Refusal as Queued}
pub use Rattle.sk_bytes.specs.Calls.{Counts as KeyCounts, HasPlaces, resting_on}
pub use Rattle.sk_bytes.specs.declared.bytes.Unmade.{Unmade}
pub use Rattle.sk_bytes.specs.declared.refusal.Refusal.TheVariants.{LongKey, LongValue, NoNumber, TooMany}
pub use Rattle.sk_channels.specs.Table.{channel_at}
pub use Rattle.sk_client.specs.Desk.{expected, first_taken, opened, pending, sent}
pub use Rattle.sk_client.specs.DeskCalls.{DeskEpochPost, ReplyPost, TurnPost}
pub use Rattle.sk_client.specs.Pending.{PendingRequest}
pub use Rattle.sk_client.specs.declared.desk.Given.{Given}
pub use Rattle.sk_client.specs.declared.desk.ReplyRefusal.{ReplyRefusal}
pub use Rattle.sk_client.specs.declared.desk.ReplyRefusal.TheVariants.{Memory, OutOfTurn, WrongKind}
pub use Rattle.sk_client.specs.declared.desk.Turn.{Turn}
pub use Rattle.sk_client.specs.declared.world.WorldAnswer.{WorldAnswer}
pub use Rattle.sk_commands.specs.Faults.{words_of}
pub use Rattle.sk_commands.specs.Names.{may_write_by, name_of}
pub use Rattle.sk_commands.specs.declared.name.Name.{Name}
pub use Rattle.sk_counts.specs.Counts.{AreCounts}
pub use Rattle.sk_counts.specs.declared.counts.Counts.{Counts}
pub use Rattle.sk_durable.specs.Posts.{ConnectPost, CutFramePost, CutPost, DecidePost, FeedAheadPost, FeedPost, FramePost, HangUpPost, LearnPost, OutputPost, ReadyPost, TellPost}
pub use Rattle.sk_durable.specs.Store.{StoreView, asked_at, is_closed, queued as queued_bytes, rests_on_at}
pub use Rattle.sk_durable.specs.contracts.store.Store.{the_row}
pub use Rattle.sk_durable.specs.declared.limits.Limits.{Limits}
pub use Rattle.sk_durable.specs.declared.refusal.NotDone.{NotDone}
pub use Rattle.sk_durable.specs.declared.store.End.{End}
pub use Rattle.sk_durable.specs.declared.store.Fed.{Fed}
pub use Rattle.sk_engine.specs.Rounds.{RoundsView, StillPost, TakePost}
pub use Rattle.sk_engine.specs.declared.answer.BatchAnswer.{BatchAnswer}
pub use Rattle.sk_engine.specs.declared.answer.FenceAnswer.{FenceAnswer}
pub use Rattle.sk_engine.specs.declared.answer.Held.{Held}
pub use Rattle.sk_engine.specs.declared.answer.Held.TheVariants.{Absent, Another, Mine}
pub use Rattle.sk_engine.specs.declared.answer.LeadAnswer.{LeadAnswer}
pub use Rattle.sk_engine.specs.declared.answer.RoundAnswer.{RoundAnswer}
pub use Rattle.sk_engine.specs.declared.request.Told.{Told as Word}
pub use Rattle.sk_engine.specs.declared.request.Told.TheVariants.{Again, Breach, Claimed, Lost, Over, Serves, Still, Synced, Unknowable, Waits}
pub use Rattle.sk_engine.specs.declared.rounds.RoundRefusal.{RoundRefusal}
pub use Rattle.sk_engine.specs.declared.rounds.RoundRefusal.TheVariants.{Nothing, Unknown}
pub use Rattle.sk_faults.specs.Details.{IsTold}
pub use Rattle.sk_faults.specs.Parts.{line_at}
pub use Rattle.sk_faults.specs.declared.part.Part.{Part}
pub use Rattle.sk_faults.specs.declared.part.Part.TheVariants.{Declarations}
pub use Rattle.sk_guesses.specs.Kept.{known}
pub use Rattle.sk_handles.specs.declared.client.Client.{Client}
pub use Rattle.sk_handles.specs.declared.codes.TheConstants.{ABSENT, ASKED, CLOSED, COMMITTED, COPY, DONE, DROPPED, EDITED, FAILED, FAULT, FORGOTTEN, GONE, GUESSED, HELD, IDLE, MEMORY, NO, NOTHING, NO_TOKEN, OPENED, OTHER_VERSION, REFUSED, SHOWN, STEPPED, TAKEN, WRITTEN, YES}
pub use Rattle.sk_handles.specs.declared.engine.TheConstants.{AGAIN, BREACH, CARRIED_OUT, CLAIMED, LOST, OVER, SEEN, SERVES, STILL, SYNCED, UNKNOWABLE, WAITS}
pub use Rattle.sk_handles.specs.declared.faults.FaultPlace.{FaultPlace}
pub use Rattle.sk_handles.specs.declared.own_calls.OwnCounts.{OwnCounts}
pub use Rattle.sk_handles.specs.declared.reading.Anew.{Anew}
pub use Rattle.sk_handles.specs.declared.reading.NoPiece.{NoPiece}
pub use Rattle.sk_handles.specs.declared.reading.ReadCounts.{ReadCounts}
pub use Rattle.sk_handles.specs.declared.reading.Reading.{Reading}
pub use Rattle.sk_handles.specs.declared.reading.Stage.{Stage}
pub use Rattle.sk_handles.specs.declared.reading.Way.{Way}
pub use Rattle.sk_handles.specs.declared.reopening.NotOpened.{NotOpened}
pub use Rattle.sk_handles.specs.declared.reopening.NotOpened.TheVariants.{Order, Refused}
pub use Rattle.sk_handles.specs.declared.reopening.StoreLimits.{StoreLimits}
pub use Rattle.sk_handles.specs.declared.store_calls.CutOff.{CutOff}
pub use Rattle.sk_handles.specs.declared.store_calls.FramePlace.{FramePlace}
pub use Rattle.sk_handles.specs.declared.store_calls.StoreCounts.{StoreCounts}
pub use Rattle.sk_handles.specs.declared.told.Told.{Told}
pub use Rattle.sk_handles.specs.declared.told.Unopened.{Unopened}
pub use Rattle.sk_held.specs.Held.{CommitsBy, FailsBy, GuessPost, HeldView, IsNew, LooksPost, PutsPost, SaysPost, StepPost, WritesPost, no_step}
pub use Rattle.sk_held.specs.Outputs.{MayBring, but_first, first_of}
pub use Rattle.sk_guesses.specs.Opens.{guess_tags}
pub use Rattle.sk_ids.specs.Guess.{IsGuessNumber}
pub use Rattle.sk_ids.specs.declared.entity.Entity.{Entity}
pub use Rattle.sk_index.specs.Index.{bytes_cmp, string_of}
pub use Rattle.sk_kernel.specs.Kernel.{KernelView, state_at, tags_at}
pub use Rattle.sk_kernel.specs.declared.kernel.EpochRefusal.{EpochRefusal}
pub use Rattle.sk_led.specs.Winding.{WindUpPost}
pub use Rattle.sk_log.specs.Frame.{frame}
pub use Rattle.sk_messages.specs.Replies.{reply_of}
pub use Rattle.sk_messages.specs.Requests.{request_bytes}
pub use Rattle.sk_outputs.specs.Said.{said_at, waiting_of}
pub use Rattle.sk_plain.specs.Refusal.{refusal_number}
pub use Rattle.sk_plain.specs.declared.refusal.Refusal.{Refusal}
pub use Rattle.sk_plain_store.specs.Plain.{Entries}
pub use Rattle.sk_play.specs.Leases.{DeskLeases}
pub use Rattle.sk_play.specs.Plays.{declared_kernel}
pub use Rattle.sk_play.specs.declared.answer.CallAnswer.{CallAnswer}
pub use Rattle.sk_play.specs.declared.epoch.EpochTold.{EpochTold}
pub use Rattle.sk_play.specs.declared.leasing.LeaseTold.{LeaseTold}
pub use Rattle.sk_play.specs.declared.told.WorldTold.{WorldTold}
pub use Rattle.sk_record.specs.Machine.{released}
pub use Rattle.sk_record.specs.UndoState.{numbers}
pub use Rattle.sk_record.specs.declared.status.Status.{Status}
pub use Rattle.sk_log.specs.Crash.{UsesFront}
pub use Rattle.sk_recovered.specs.Frames.{capped}
pub use Rattle.sk_recovered.specs.Recovered.{is_damaged, HasRecovered, IsFound, IsWithin}
pub use Rattle.sk_recovered.specs.Segments.{used, AddsHead}
pub use Rattle.sk_recovered.specs.Snapshots.{snapshot_heads}
pub use Rattle.sk_recovered.specs.declared.heads.Head.{Head}
pub use Rattle.sk_recovered.specs.declared.recovered.Found.{Found}
pub use Rattle.sk_recovered.specs.declared.recovered.Recovered.{Recovered}
pub use Rattle.sk_recovered.specs.declared.segment.Segment.{Segment}
pub use Rattle.sk_reopened.specs.Reopened.{IsAgainst, Reopens}
pub use Rattle.sk_reopened.specs.declared.opening.Last.{Last}
pub use Rattle.sk_reopened.specs.declared.opening.Reopened.{Reopened}
pub use Rattle.sk_replay.specs.Snapshot.{IsPiece}
pub use Rattle.sk_report.specs.Directories.{gathered}
pub use Rattle.sk_report.specs.Printed.{tags_text}
pub use Rattle.sk_report.specs.Report.{report_text, terminal_said}
pub use Rattle.sk_report.specs.declared.stop.Stop.{Stop}
pub use Rattle.sk_requests.specs.Replies.{error_text}
pub use Rattle.sk_scenario.specs.Declarations.{Declared}
pub use Rattle.sk_scenario.specs.Scenario.{Says, ScenarioView, SectionView, World, scenario_of, section_view}
pub use Rattle.sk_scenario.specs.declared.scenario.Scenario.{Scenario}
pub use Rattle.sk_server.specs.declared.reply.Answer.{Answer, Answer as ServerAnswer}
pub use Rattle.sk_server.specs.declared.reply.Reply.{Reply}
pub use Rattle.sk_server.specs.declared.request.Request.{Request}
pub use Rattle.sk_slots.specs.Slots.{look_at}
pub use Rattle.sk_speculator.specs.Calls.{next_of}
pub use Rattle.sk_speculator.specs.Parts.{undo_state_of}
pub use Rattle.sk_speculator.specs.declared.decided.Committed.{Committed}
pub use Rattle.sk_talk.specs.Asked.{named}
pub use Rattle.sk_talk.specs.Epochs.{EpochComes}
pub use Rattle.sk_talk.specs.HandedOut.{released_in}
pub use Rattle.sk_talk.specs.Leases.{LeaseComes}
pub use Rattle.sk_talk.specs.Lines.{LineTaken, line_text}
pub use Rattle.sk_talk.specs.Played.{kernel_of, opened_in, report_of}
pub use Rattle.sk_talk.specs.declared.line.LineTold.{LineTold}
pub use Rattle.sk_talk.specs.declared.play.Play.{Play, Play as PlayView}
pub use Rattle.sk_terminal.specs.Terminals.{TerminalMap, released_at}
pub use Rattle.sk_trace.specs.Trace.{TraceView}
pub use Rattle.sk_words.specs.Operands.{pid}
pub use Rattle.sk_words.specs.declared.fault.Fault.{Fault}
pub use Rattle.sk_words.specs.declared.fault.FaultKind.{FaultKind}
pub use Rattle.std.specs.Int.NonZero.{non_zero_u16_get}
pub use Rattle.std.specs.List.{slice_get}
pub use Rattle.std.specs.Option.{option_map, option_map_or}
pub use Rattle.std.specs.Str.Lines.{lines}
pub use Rattle.std.specs.Vec.{vec_items}
pub use Rattle.std.specs.declared.alloc.AllocError.{AllocError}
pub use Rattle.std.specs.declared.alloc.Global.{Global}
pub use Rattle.std.specs.declared.vec.Vec.{Vec}
