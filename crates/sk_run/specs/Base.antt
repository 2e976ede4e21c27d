-- The names of other crates, and of the types of this one, that definitions and clauses cite. Declares nothing.
pub use Rattle.sk_client.specs.WorldView.{WorldView}
pub use Rattle.sk_command.specs.Ends.{EndsUnwritten, IsFlushed, IsWritten}
pub use Rattle.sk_command.specs.Messages.{message_text}
pub use Rattle.sk_command.specs.declared.end.End.{End}
pub use Rattle.sk_command.specs.declared.job.Shows.{Shows}
pub use Rattle.sk_command.specs.declared.message.Message.{Message}
pub use Rattle.sk_counts.specs.Counts.{AreCounts}
pub use Rattle.sk_counts.specs.declared.counts.Counts.{Counts}
pub use Rattle.sk_ids.specs.declared.entity.Entity.{Entity}
pub use Rattle.sk_ids.specs.declared.entity.Entity.TheVariants.{Proc}
pub use Rattle.sk_kernel.specs.Footprint.{footprint_of}
pub use Rattle.sk_kernel.specs.Holder.{holding}
pub use Rattle.sk_kernel.specs.Kernel.{KernelView, effect_at, state_at, tags_at}
pub use Rattle.sk_kernel.specs.declared.footprint.Footprint.{Footprint}
pub use Rattle.sk_plain.specs.Act.{Saying, plain}
pub use Rattle.sk_plain.specs.Plain.{PlainView, step_of, stepped, texts_said}
pub use Rattle.sk_plain.specs.Refusal.{cause}
pub use Rattle.sk_plain.specs.Replay.{FaultIn, image}
pub use Rattle.sk_plain.specs.declared.refusal.Refusal.{Refusal}
pub use Rattle.sk_plain.specs.declared.replay.TraceFault.{TraceFault}
pub use Rattle.sk_play.specs.Epochs.{epoch_line}
pub use Rattle.sk_play.specs.Leases.{lease_line}
pub use Rattle.sk_play.specs.Played.{answer_line}
pub use Rattle.sk_play.specs.Plays.{declared_kernel}
pub use Rattle.sk_play.specs.Replays.{Replays, StopsAt, replayed}
pub use Rattle.sk_play.specs.Session.{AnswerMatches, held_after}
pub use Rattle.sk_play.specs.Told.{told_line}
pub use Rattle.sk_play.specs.WorldReport.{world_report_text}
pub use Rattle.sk_play.specs.Worlds.{declared_world}
pub use Rattle.sk_play.specs.declared.answer.CallAnswer.{CallAnswer}
pub use Rattle.sk_play.specs.declared.epoch.EpochTold.{EpochTold}
pub use Rattle.sk_play.specs.declared.leasing.LeaseTold.{LeaseTold}
pub use Rattle.sk_play.specs.declared.session.Session.{Session}
pub use Rattle.sk_play.specs.declared.told.WorldTold.{WorldTold}
pub use Rattle.sk_questions.specs.Questions.{asked_by}
pub use Rattle.sk_questions.specs.declared.asked.Asked.{Asked}
pub use Rattle.sk_record.specs.Release.{said_from}
pub use Rattle.sk_record.specs.Run.{effects, run}
pub use Rattle.sk_record.specs.Step.{Effect}
pub use Rattle.sk_record.specs.Trace.{Event as Happens, IsSound, record_of}
pub use Rattle.sk_report.specs.Footprints.{footprint_lines, listed}
pub use Rattle.sk_report.specs.Report.{plain_report_text, report_text}
pub use Rattle.sk_report.specs.declared.stop.Stop.{Stop}
pub use Rattle.sk_run.specs.declared.explaining.Beside.{Beside}
pub use Rattle.sk_run.specs.declared.listing.Foreseen.{Foreseen}
pub use Rattle.sk_run.specs.declared.strict.StrictSession.{StrictSession}
pub use Rattle.sk_run.specs.declared.strict.StrictWorld.{StrictWorld}
pub use Rattle.sk_run.specs.declared.talking.Talk.{Talk}
pub use Rattle.sk_scenario.specs.Declarations.{Declared}
pub use Rattle.sk_scenario.specs.Scenario.{section_view}
pub use Rattle.sk_scenario.specs.declared.call.Call.{Call}
pub use Rattle.sk_script.specs.Boot.{BootView}
pub use Rattle.sk_script.specs.declared.instruction.Input.{Input}
pub use Rattle.sk_source.specs.Source.{explained, source_of}
pub use Rattle.sk_source.specs.View.{SourceView}
pub use Rattle.sk_source.specs.declared.source.Stand.{Stand}
pub use Rattle.sk_store.specs.Start.{start_of}
pub use Rattle.sk_store.specs.declared.entity_state.EntityState.{EntityState}
pub use Rattle.sk_talk.specs.Asked.{IsAnswer, TellsCounts, counts_lines}
pub use Rattle.sk_talk.specs.Epochs.{EpochComes}
pub use Rattle.sk_talk.specs.HandedOut.{HandedMap, all_handed, handed_at, released_answer}
pub use Rattle.sk_talk.specs.Leases.{LeaseComes}
pub use Rattle.sk_talk.specs.Lines.{LineTaken}
pub use Rattle.sk_talk.specs.Played.{kernel_of, opened_in}
pub use Rattle.sk_talk.specs.declared.line.LineTold.{LineTold}
pub use Rattle.sk_talk.specs.declared.play.Play.{Play}
pub use Rattle.sk_trace.specs.Entry.{EntryView}
pub use Rattle.sk_trace.specs.Text.{trace_text}
pub use Rattle.sk_trace.specs.declared.event.Event.{Event}
pub use Rattle.sk_trace.specs.LentEvent.{event_in}
pub use Rattle.sk_trace.specs.declared.world_event.WorldEvent.{WorldEvent}
pub use Rattle.sk_words.specs.Words.{words}
pub use Rattle.sk_words.specs.declared.fault.FaultKind.{FaultKind}
pub use Rattle.std.specs.Io.Buffered.{writer_buffer, writer_contents}
pub use Rattle.std.specs.Io.KnownBytes.{Appends, Keeps}
pub use Rattle.std.specs.Result.{result_ok}
pub use Rattle.std.specs.Str.Lines.{lines}
