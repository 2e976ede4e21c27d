-- What the proofs of this crate cite from outside of them, passed on from one place. Declares nothing.
pub use Rattle.std.proofs.Common.{ap, Some, ◌++◌, length, Bool, ℕ, subst, true, Ok, drop, ◌∷◌, sym, decimal, None, suc}
pub use Rattle.std.proofs.Common.{zero, ◌≤◌, ◌≡◌, rules, take, ◌+◌, false, Option, ◌<◌, arith, refl, List, Result, []}
pub use Rattle.std.proofs.Common.{◌∙◌, ◌==◌, get_or, map}
pub use Rattle.std.proofs.lemmas.Fmt.{length-decimal-le, decimal_digit}
pub use Rattle.std.proofs.Math.Seq.{drop-length}
pub use Rattle.std.proofs.lemmas.List.{take_all, append_assoc, take_more, append-nil}
pub use Rattle.std.specs.Io.KnownBytes.{Appends}
pub use Rattle.std.specs.Prelude.{OnOk, codes}
pub use Rattle.sk_client.proofs.Upcoming.{event_foreseen}
pub use Rattle.sk_client.proofs.Desks.{newest_is}
pub use Rattle.sk_trace.specs.LentEvent.{event_in}
pub use Rattle.sk_client.specs.Upcoming.{upcoming as upcoming_in}
pub use Rattle.sk_client.specs.WorldView.{NewsPost, WorldView, EventPost}
pub use Rattle.sk_client.specs.declared.world.Cause.{Cause}
pub use Rattle.sk_client.specs.declared.world.WorldAnswer.{WorldAnswer}
pub use Rattle.sk_trace.specs.declared.world_event.WorldEvent.{WorldEvent}
pub use Rattle.sk_client.specs.declared.world.WorldNews.{WorldNews}
pub use Rattle.sk_kernel.specs.Holder.{DecidesPost, HolderView, but}
pub use Rattle.sk_kernel.proofs.Appended.{IsForeseen, appended_foreseen, unchanged_foreseen}
pub use Rattle.sk_kernel.specs.Footprint.{appended}
pub use Rattle.sk_kernel.specs.Kernel.{next_guess, with_event, KernelView}
pub use Rattle.sk_kernel.specs.declared.kernel.Outcome.{Outcome}
pub use Rattle.sk_plain.specs.Refusal.{refusal_number}
pub use Rattle.sk_plain.specs.RefusalText.{refusal_name}
pub use Rattle.sk_plain.specs.declared.refusal.Refusal.{Refusal}
pub use Rattle.sk_play.specs.Played.{answer_text}
pub use Rattle.sk_play.specs.Plays.{Plays}
pub use Rattle.sk_play.specs.Replays.{replayed, told_by, call_of, Replays, StopsAt}
pub use Rattle.sk_play.specs.Session.{DecisionTold, AnswerMatches, held_after, StepTold, GuessTold, upcoming}
pub use Rattle.sk_play.specs.Told.{told_line}
pub use Rattle.sk_play.specs.Worlds.{seeded, Happens}
pub use Rattle.sk_play.specs.declared.answer.CallAnswer.{CallAnswer}
pub use Rattle.sk_play.specs.declared.told.WorldTold.{WorldTold}
pub use Rattle.sk_record.specs.Notes.{has}
pub use Rattle.sk_scenario.specs.declared.call.Call.{Call}
pub use Rattle.sk_script.specs.declared.instruction.Input.{Input}
pub use Rattle.sk_server.specs.Server.{new_server}
pub use Rattle.sk_server.specs.declared.reply.Reply.{Reply}
pub use Rattle.sk_trace.specs.declared.event.Event.{Event}
pub use Rattle.std.specs.Prelude.{flat_map}
pub use Rattle.std.proofs.Common.{ap₂}
pub use Rattle.sk_client.specs.Desk.{DeskView, pending}
pub use Rattle.sk_play.specs.WorldReport.{remote_line, desk_line, counts_of, desk_report_text}
