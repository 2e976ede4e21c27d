-- What the proofs of this crate cite from outside of them, passed on from one place. Declares nothing.
pub use Rattle.std.proofs.Common.{Some, eqb, Bool, vec_len, subst, inr, Ok, ◌∷◌, Err, inl, ◌≡◌, rules, ◌+◌, Option}
pub use Rattle.std.proofs.Common.{arith, map, List, get_or, ap, ◌++◌, length, ◌⊎◌, ℕ, take-append-drop, true, drop, sym}
pub use Rattle.std.proofs.Common.{length-append, None, suc, ◌≤◌, take, false, ◌<◌, refl, codes, Result, [], ◌∙◌, cond}
pub use Rattle.std.proofs.KnownBytes.{Appends-kept, Appends-nil, Keeps-refl, Appends-trans}
pub use Rattle.std.proofs.lemmas.Bool.{ne_eqb}
pub use Rattle.std.proofs.lemmas.List.{length-take-le, append_assoc, map-append, take_more, append-nil}
pub use Rattle.std.proofs.lemmas.Result.{on_ok_weaker}
pub use Rattle.std.specs.Io.BufRead.{drop_through, take_through, DropsThrough}
pub use Rattle.std.specs.Io.Buffered.{writer_contents, reader_remaining, writer_buffer, reader_buffer, reader_inner}
pub use Rattle.std.specs.Io.Buffered.{reader_capacity}
pub use Rattle.std.specs.Io.KnownBytes.{Keeps, Appends}
pub use Rattle.std.specs.Option.{unwrap_or}
pub use Rattle.std.specs.Ordering.{nat_cmp}
pub use Rattle.std.specs.Prelude.{⊤, IsSome, IfSome, option_and_then, OnOk, ◌==◌}
pub use Rattle.std.specs.Result.{result_ok}
pub use Rattle.std.specs.Str.Lines.{lines}
pub use Rattle.std.specs.declared.io.buffered.BufReader.{BufReader}
pub use Rattle.sk_client.specs.Desk.{DeskView}
pub use Rattle.sk_trace.specs.declared.world_event.WorldEvent.{WorldEvent}
pub use Rattle.sk_command.specs.Ends.{IsWritten, IsFlushed, with_refusal}
pub use Rattle.sk_command.specs.declared.end.End.{End}
pub use Rattle.sk_command.specs.declared.job.Shows.{Shows}
pub use Rattle.sk_ids.specs.declared.entity.Entity.{Entity}
pub use Rattle.sk_ids.specs.declared.entity.Entity.TheVariants.{Proc}
pub use Rattle.sk_kernel.proofs.Appended.{IsForeseen}
pub use Rattle.sk_kernel.specs.Footprint.{appended, footprint_of}
pub use Rattle.sk_kernel.specs.Kernel.{effect_at, tags_at, KernelView}
pub use Rattle.sk_kernel.specs.declared.footprint.Footprint.{Footprint}
pub use Rattle.sk_plain.proofs.Replays.{first_is_taken}
pub use Rattle.sk_plain.specs.Act.{plain, Saying}
pub use Rattle.sk_plain.specs.Plain.{with_said, PlainView, plain_start, step_of}
pub use Rattle.sk_plain.specs.Replay.{image, FaultIn}
pub use Rattle.sk_plain.specs.declared.refusal.Refusal.{Refusal}
pub use Rattle.sk_plain.specs.declared.replay.TraceFault.{TraceFault}
pub use Rattle.sk_plain.specs.declared.replay.TraceFault.TheVariants.{Memory}
pub use Rattle.sk_play.proofs.Foreseen.{call_foreseen, happening_foreseen}
pub use Rattle.sk_play.specs.Played.{answer_line}
pub use Rattle.sk_play.specs.Replays.{replayed, Replays}
pub use Rattle.sk_play.specs.Told.{told_line}
pub use Rattle.sk_play.specs.Session.{upcoming}
pub use Rattle.sk_play.specs.Worlds.{Happens}
pub use Rattle.sk_questions.specs.Questions.{asked_by}
pub use Rattle.sk_questions.specs.declared.asked.Asked.{Asked}
pub use Rattle.sk_record.proofs.Machine.{nil_right}
pub use Rattle.sk_record.specs.Machine.{released}
pub use Rattle.sk_record.specs.Release.{said_by, said_from}
pub use Rattle.sk_record.specs.Run.{effects, marked_effect, IsLegal, after, run, put_all}
pub use Rattle.sk_record.specs.Step.{Effect}
pub use Rattle.sk_record.specs.Trace.{IsSound}
pub use Rattle.sk_report.specs.Footprints.{event_lines, listed, touched_lines}
pub use Rattle.sk_report.specs.Report.{report_text, plain_report_text}
pub use Rattle.sk_report.specs.declared.stop.Stop.{Stop}
pub use Rattle.sk_run.specs.Explained.{beside_answers, stand_of, Shown}
pub use Rattle.sk_run.specs.InTurn.{Answered, HasAnswered, Lists, Prints, Reported, Tells}
pub use Rattle.sk_run.specs.Listing.{foreseen, touched, lines_of, foreseen_lines}
pub use Rattle.sk_run.specs.Plainly.{HasRun, happened, after_step, HasSoundTrace, left_by, all_run, AllTaken}
pub use Rattle.sk_run.specs.Plainly.{trace_fault_end}
pub use Rattle.sk_run.specs.Replayed.{EndsReplayed}
pub use Rattle.sk_run.specs.Run.{EndsReport, IsCounted, WritesCounts, IsPlayed, IsPlayedWith, Plays, EndsPlain}
pub use Rattle.sk_run.specs.Run.{trace_section, IsBehind, where_wanted, EndsPlay}
pub use Rattle.sk_run.specs.Talk.{Answers, AnswersBy, is_end, is_help, number_behind, EndsTalk, EndsOpened, talked, begun, AnswersAs}
pub use Rattle.sk_run.specs.Talk.{TakesLine}
pub use Rattle.sk_run.specs.declared.talking.Talk.{Talk}
pub use Rattle.sk_scenario.specs.Scenario.{section_view}
pub use Rattle.sk_script.specs.Boot.{BootView}
pub use Rattle.sk_script.specs.Scripts.{ScriptMap}
pub use Rattle.sk_script.specs.declared.instruction.Input.{Input}
pub use Rattle.sk_source.specs.Source.{explained}
pub use Rattle.sk_source.specs.declared.source.Stand.{Stand}
pub use Rattle.sk_store.specs.Start.{start_of}
pub use Rattle.sk_store.specs.State.{State}
pub use Rattle.sk_store.specs.declared.entity_state.EntityState.{EntityState}
pub use Rattle.sk_talk.specs.Asked.{counts_lines}
pub use Rattle.sk_talk.specs.Played.{opened_in}
pub use Rattle.sk_talk.specs.declared.line.LineTold.{LineTold}
pub use Rattle.sk_talk.specs.declared.play.Play.{Play}
pub use Rattle.sk_terminal.proofs.Views.{released-clear}
pub use Rattle.sk_terminal.specs.Terminal.{clear}
pub use Rattle.sk_terminal.specs.Terminals.{TerminalMap, texts_at}
pub use Rattle.sk_trace.specs.Entry.{EntryView}
pub use Rattle.sk_trace.specs.declared.event.Event.{Event}
pub use Rattle.sk_words.proofs.Parts.{next_line}
pub use Rattle.sk_words.specs.Lines.{parts}
pub use Rattle.sk_words.specs.declared.fault.FaultKind.{FaultKind}
