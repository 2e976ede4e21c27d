-- The names of other crates, and of the types of this one, that definitions and clauses cite. Declares nothing.
pub use Rattle.sk_client.specs.declared.desk.Given.{Given}
pub use Rattle.sk_client.specs.declared.desk.Pending.{Pending}
pub use Rattle.sk_client.specs.declared.desk.ReplyRefusal.{ReplyRefusal}
pub use Rattle.sk_client.specs.declared.desk.Turn.{Turn}
pub use Rattle.sk_client.specs.declared.pending.BoxedAsk.{BoxedAsk}
pub use Rattle.sk_client.specs.declared.pending.KeptAnswer.{KeptAnswer}
pub use Rattle.sk_client.specs.declared.rule.Wanted.{Wanted}
pub use Rattle.sk_client.specs.declared.rule.Wish.{Wish}
pub use Rattle.sk_client.specs.declared.world.Cause.{Cause}
pub use Rattle.sk_client.specs.declared.world.WorldAnswer.{WorldAnswer}
pub use Rattle.sk_client.specs.declared.world.WorldNews.{WorldNews}
pub use Rattle.sk_client.specs.declared.world.WorldStop.{WorldStop}
pub use Rattle.sk_guesses.specs.Token.{Token}
pub use Rattle.sk_ids.specs.declared.entity.Entity.{Entity}
pub use Rattle.sk_ids.specs.declared.entity.Entity.TheVariants.{Copy as CopyOf, Proc}
pub use Rattle.sk_kernel.specs.Calls.{CommitPost, EpochPost, FailPost, GuessPost, LeavesTexts, StepPost}
pub use Rattle.sk_kernel.specs.HandIn.{HandInPost, IsAsLent, with_steps}
pub use Rattle.sk_kernel.specs.Holder.{DecidesPost}
pub use Rattle.sk_kernel.specs.Kernel.{KernelView, booted, effect_at, events_of, guess_misfits, guess_refused, kernel_code, next_at, next_guess, or_else, record_at, room, settled, state_at, step_misfit, step_refused, tags_at, too_many, undecided_at, with_event}
pub use Rattle.sk_kernel.specs.Laws.{HasSoundTrace}
pub use Rattle.sk_kernel.specs.declared.hand_in.HandIn.{HandIn}
pub use Rattle.sk_kernel.specs.declared.kernel.EpochRefusal.{EpochRefusal}
pub use Rattle.sk_kernel.specs.declared.kernel.FailRefusal.{FailRefusal}
pub use Rattle.sk_kernel.specs.declared.kernel.Outcome.{Outcome}
pub use Rattle.sk_kernel.specs.declared.kernel.Stranger.{Stranger}
pub use Rattle.sk_objects.specs.Content.{ContentView}
pub use Rattle.sk_objects.specs.declared.content.TheConstants.{LAST_VERSION}
pub use Rattle.sk_objects.specs.declared.value.Value.{Value}
pub use Rattle.sk_plain.specs.Act.{Saying, plain}
pub use Rattle.sk_plain.specs.Leased.{Lends, lease_of}
pub use Rattle.sk_plain.specs.Next.{unplanned}
pub use Rattle.sk_plain.specs.Refusal.{cause}
pub use Rattle.sk_plain.specs.declared.next.Next.{Next}
pub use Rattle.sk_plain.specs.declared.refusal.Refusal.{Refusal}
pub use Rattle.sk_record.specs.Effects.{MarkedEffect}
pub use Rattle.sk_record.specs.Notes.{has}
pub use Rattle.sk_record.specs.Run.{effects}
pub use Rattle.sk_record.specs.Trace.{Commit}
pub use Rattle.sk_record.specs.declared.status.Status.{Status}
pub use Rattle.sk_script.specs.Boot.{BootView}
pub use Rattle.sk_script.specs.Lease.{LeaseView, after_private}
pub use Rattle.sk_script.specs.declared.instruction.Input.{Input}
pub use Rattle.sk_server.specs.Calls.{Edits}
pub use Rattle.sk_server.specs.Files.{FileMap, is_fitting, written}
pub use Rattle.sk_server.specs.Lent.{request_in}
pub use Rattle.sk_server.specs.Server.{ServerView, answer_to, answered, is_in_turn, server_code}
pub use Rattle.sk_server.specs.Verdict.{asked_name}
pub use Rattle.sk_server.specs.declared.reply.Answer.{Answer}
pub use Rattle.sk_server.specs.declared.reply.Reply.{Reply}
pub use Rattle.sk_server.specs.declared.request.Ask.{Ask}
pub use Rattle.sk_server.specs.declared.request.Request.{Request, Request as Sent}
pub use Rattle.sk_server.specs.declared.server.TheConstants.{LAST_REQUEST}
pub use Rattle.sk_store.specs.declared.entity_state.EntityState.{EntityState}
pub use Rattle.sk_terminal.specs.Terminals.{TerminalMap, released_at}
pub use Rattle.sk_trace.specs.Entry.{EntryView}
pub use Rattle.sk_trace.specs.Kept.{input_in}
pub use Rattle.sk_trace.specs.LentEvent.{event_in}
pub use Rattle.sk_trace.specs.Trace.{TraceView}
pub use Rattle.sk_trace.specs.declared.event.Event.{Event}
pub use Rattle.sk_trace.specs.declared.event.Event.TheVariants.{Step}
pub use Rattle.sk_trace.specs.declared.world_event.WorldEvent.{WorldEvent}
pub use Rattle.std.specs.Borrow.{Bor}
pub use Rattle.std.specs.Coded.{Coded, code_by, coded_list, coded_option, coded_ℕ, coded×}
pub use Rattle.std.specs.FinMap.{get}
pub use Rattle.std.specs.List.{Contains, filter, fold, list_any}
pub use Rattle.std.specs.List.Sorted.{IsStrictlySortedBy}
pub use Rattle.std.specs.Option.{option_copied}
pub use Rattle.std.specs.Ordering.{nat_cmp}
