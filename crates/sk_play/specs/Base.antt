-- The names of other crates, and of the types of this one, that definitions and clauses cite. Declares nothing.
pub use Rattle.sk_client.specs.Desk.{DeskView, opened, pending}
pub use Rattle.sk_client.specs.Leasing.{DeskTakesIn, WorldTakesIn, desk_lease}
pub use Rattle.sk_client.specs.WorldView.{EventPost, WorldView, joined}
pub use Rattle.sk_client.specs.declared.desk.Given.{Given}
pub use Rattle.sk_client.specs.declared.desk.Turn.{Turn}
pub use Rattle.sk_client.specs.declared.world.Cause.{Cause}
pub use Rattle.sk_client.specs.declared.world.WorldAnswer.{WorldAnswer}
pub use Rattle.sk_kernel.specs.HandIn.{HandInPost, TakesIn}
pub use Rattle.sk_kernel.specs.Holder.{BeginsPost, but, holding}
pub use Rattle.sk_kernel.specs.Kernel.{HasStatus, KernelView, booted, guess_refused, next_guess, state_at, step_refused, undecided_at, with_event}
pub use Rattle.sk_kernel.specs.declared.hand_in.HandIn.{HandIn}
pub use Rattle.sk_kernel.specs.declared.kernel.Outcome.{Outcome}
pub use Rattle.sk_objects.specs.Content.{ContentView}
pub use Rattle.sk_plain.specs.Leased.{lease_of}
pub use Rattle.sk_plain.specs.Refusal.{cause}
pub use Rattle.sk_plain.specs.RefusalText.{refusal_words}
pub use Rattle.sk_plain.specs.declared.refusal.Refusal.{Refusal}
pub use Rattle.sk_play.specs.declared.answer.CallAnswer.{CallAnswer}
pub use Rattle.sk_play.specs.declared.leasing.LeaseTold.{LeaseTold}
pub use Rattle.sk_play.specs.declared.replaying.Unreplayed.{Unreplayed}
pub use Rattle.sk_play.specs.declared.told.WorldTold.{WorldTold}
pub use Rattle.sk_record.specs.Notes.{has}
pub use Rattle.sk_record.specs.declared.status.Status.TheVariants.{Struck, Undecided}
pub use Rattle.sk_report.specs.Printed.{content_text}
pub use Rattle.sk_report.specs.Report.{kernel_text}
pub use Rattle.sk_scenario.specs.Declarations.{Declared}
pub use Rattle.sk_scenario.specs.declared.call.Call.{Call}
pub use Rattle.sk_scenario.specs.declared.declarations.Remote.{Remote}
pub use Rattle.sk_scenario.specs.declared.declarations.TheConstants.{KERNEL_NUMBER, TRACE_LIMIT}
pub use Rattle.sk_script.specs.Lease.{LeaseView, ran}
pub use Rattle.sk_script.specs.declared.instruction.Input.{Input}
pub use Rattle.sk_server.specs.Files.{FileMap}
pub use Rattle.sk_server.specs.Server.{ServerView, new_server}
pub use Rattle.sk_server.specs.declared.reply.Answer.{Answer}
pub use Rattle.sk_server.specs.declared.server.EditRefusal.{EditRefusal}
pub use Rattle.sk_trace.specs.Entry.{EntryView}
pub use Rattle.sk_trace.specs.Kept.{input_in}
pub use Rattle.sk_trace.specs.LentEvent.{event_in}
pub use Rattle.sk_trace.specs.declared.event.Event.{Event}
pub use Rattle.sk_trace.specs.declared.world_event.WorldEvent.{WorldEvent}
