-- What the proofs of this crate cite from outside of them, passed on from one place. Declares nothing.
pub use Rattle.std.proofs.Common.{ap, Some, None, Err, ◌++◌, ◌≤◌, ◌≡◌, take, ◌-◌, length, Option, arith, append_assoc}
pub use Rattle.std.proofs.Common.{Bool, true, false, ℕ, Result, List, subst, ◌≢◌, inr, take-append-drop, ◌∙◌, Ok, drop, sym}
pub use Rattle.std.proofs.KnownBytes.{Appends-trans, Appends-kept}
pub use Rattle.std.proofs.lemmas.List.{take_rest}
pub use Rattle.std.specs.Io.KnownBytes.{Appends}
pub use Rattle.std.specs.Prelude.{IfSome}
pub use Rattle.std.specs.Str.Lines.{lines}
pub use Rattle.sk_client.specs.Desk.{DeskView}
pub use Rattle.sk_command.specs.Ends.{fault_end}
pub use Rattle.sk_command.specs.ReadAll.{INPUT_LIMIT}
pub use Rattle.sk_command.specs.declared.end.End.{End}
pub use Rattle.sk_command.specs.declared.job.Shows.{Shows}
pub use Rattle.sk_command.specs.declared.job.Task.{Task}
pub use Rattle.sk_crew.specs.Crewed.{IsCrewed}
pub use Rattle.sk_play.specs.WorldReport.{desk_report_text, workers_line}
pub use Rattle.sk_run.specs.Base.{Call, WorldEvent}
pub use Rattle.sk_run.specs.Run.{EndsPlayedBy, EndsWorldBy}
pub use Rattle.sk_run.specs.Talk.{EndsOpened}
pub use Rattle.sk_scenario.specs.Declarations.{Declared}
pub use Rattle.sk_scenario.specs.Scenario.{Trace, section_view, SectionView, World, Steps}
pub use Rattle.sk_scenario.specs.declared.scenario.Scenario.{Scenario}
pub use Rattle.sk_server.specs.Server.{ServerView}
pub use Rattle.sk_talk.specs.Played.{opened_in}
pub use Rattle.sk_talk.specs.declared.play.Play.{Play as Talking}
pub use Rattle.sk_words.specs.declared.fault.Fault.{Fault}
pub use Rattle.sk_words.specs.declared.fault.FaultKind.{FaultKind}
pub use Rattle.sk_words.specs.declared.fault.FaultKind.TheVariants.{Word}
pub use Rattle.sk_workers.specs.History.{Runs}
pub use Rattle.speculate.specs.Program.{EndsInSection, EndsRead, EndsText, EndsFile}
pub use Rattle.speculate.specs.Work.{CanLeave, IsTold, EndsWork}
