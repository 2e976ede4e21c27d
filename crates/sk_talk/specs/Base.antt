-- The names of other crates, and of the types of this one, that definitions and clauses cite. Declares nothing.
pub use Rattle.sk_client.specs.WorldView.{WorldEpochPost, WorldView}
pub use Rattle.sk_counts.specs.Counts.{AreCounts}
pub use Rattle.sk_counts.specs.Text.{counts_text}
pub use Rattle.sk_counts.specs.declared.counts.Counts.{Counts}
pub use Rattle.sk_ids.specs.Entity.{entity_cmp}
pub use Rattle.sk_ids.specs.declared.entity.Entity.{Entity}
pub use Rattle.sk_kernel.specs.Holder.{BeginsPost, holding}
pub use Rattle.sk_kernel.specs.Kernel.{KernelView, state_at, tags_at}
pub use Rattle.sk_kernel.specs.declared.kernel.EpochRefusal.{EpochRefusal}
pub use Rattle.sk_play.specs.Leases.{KernelLeases, WorldLeases}
pub use Rattle.sk_play.specs.Played.{answer_text}
pub use Rattle.sk_play.specs.Plays.{declared_kernel}
pub use Rattle.sk_play.specs.Session.{AnswerMatches, held_after}
pub use Rattle.sk_play.specs.Told.{told_text}
pub use Rattle.sk_play.specs.WorldReport.{world_report_text}
pub use Rattle.sk_play.specs.Worlds.{Happens, declared_world}
pub use Rattle.sk_play.specs.declared.epoch.EpochTold.{EpochTold}
pub use Rattle.sk_play.specs.declared.leasing.LeaseTold.{LeaseTold}
pub use Rattle.sk_play.specs.declared.session.Session.{Session}
pub use Rattle.sk_questions.specs.Named.{IsEntity, entity}
pub use Rattle.sk_questions.specs.declared.question.Question.{Question}
pub use Rattle.sk_record.specs.Effects.{is_in}
pub use Rattle.sk_record.specs.Machine.{released}
pub use Rattle.sk_record.specs.Notes.{has}
pub use Rattle.sk_report.specs.Directories.{gathered, gathered_at, held_there}
pub use Rattle.sk_report.specs.Footprints.{entities_text}
pub use Rattle.sk_report.specs.Printed.{entity_text, tags_text}
pub use Rattle.sk_report.specs.Report.{report_text, said_there, terminal_said, texts_lines}
pub use Rattle.sk_scenario.specs.Calls.{step_line}
pub use Rattle.sk_scenario.specs.Declarations.{Declared}
pub use Rattle.sk_scenario.specs.Scenario.{SectionView, Steps, World, section_view}
pub use Rattle.sk_scenario.specs.WorldEvents.{world_line}
pub use Rattle.sk_scenario.specs.declared.call.Call.{Call}
pub use Rattle.sk_store.specs.declared.entity_state.EntityState.{EntityState}
pub use Rattle.sk_talk.specs.declared.line.LineTold.{LineTold}
pub use Rattle.sk_talk.specs.declared.play.Play.{Play}
pub use Rattle.sk_terminal.specs.Terminals.{TerminalMap}
pub use Rattle.sk_trace.specs.Text.{trace_text}
pub use Rattle.sk_trace.specs.Trace.{TraceView}
pub use Rattle.sk_trace.specs.declared.world_event.WorldEvent.{WorldEvent}
pub use Rattle.sk_words.specs.Reading.{TellsKind}
pub use Rattle.sk_words.specs.Words.{words}
pub use Rattle.sk_words.specs.declared.fault.FaultKind.{FaultKind}
pub use Rattle.std.specs.Coded.{Coded, coded_ℕ}
pub use Rattle.std.specs.Io.KnownBytes.{Appends}
pub use Rattle.std.specs.List.{AllByRecursion, find}
pub use Rattle.std.specs.List.Sorted.{IsStrictlySortedBy}
pub use Rattle.std.specs.Option.{unwrap_or}
pub use Rattle.std.specs.Ordering.{nat_cmp}
