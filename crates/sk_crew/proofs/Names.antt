-- What the proofs of this crate cite from outside of them, passed on from one place. Declares nothing.
pub use Rattle.std.proofs.Common.{subst, inr, inl, ◌≡◌, arith, ap, sym, refl, flat_map, ◌∙◌}
pub use Rattle.std.proofs.Math.Nat.{lt_of_mul-lt-mul_left}
pub use Rattle.std.proofs.lemmas.Bool.{ltb-false, leb-false, leb-true, ltb-true}
pub use Rattle.std.proofs.lemmas.List.{append_assoc, map-append, take-append-drop, append-nil}
pub use Rattle.std.proofs.lemmas.List.Elements.{Contains-append_left, Contains-push, Contains-append_cases}
pub use Rattle.std.proofs.lemmas.List.Elements.{Contains-append_right, Contains-push_cases}
pub use Rattle.std.proofs.lemmas.List.Sums.{sum_by-append}
pub use Rattle.std.proofs.lemmas.Option.{slice_get_within, slice_get-get_or, same_Some}
pub use Rattle.std.specs.List.{Contains}
pub use Rattle.std.specs.Prelude.{Some, Bool, Ok, ◌∷◌, ◌&&◌, Err, zero, ◌^◌, ◌+◌, Option, List, slice_get, ◌*◌, ◌++◌}
pub use Rattle.std.specs.Prelude.{length, ◌⊎◌, ℕ, true, drop, IfSome, None, suc, if◌then◌else◌, ◌≤◌, take, false, ◌<◌}
pub use Rattle.std.specs.Prelude.{option_and_then, Result, [], nat_lt, ◌==◌}
pub use Rattle.sk_client.specs.Desk.{pending, opened_at, asks_for, DeskView}
pub use Rattle.sk_client.specs.Leasing.{unless_asked, desk_lease}
pub use Rattle.sk_client.specs.declared.desk.Turn.{Turn}
pub use Rattle.sk_crew.specs.Ahead.{HasRun, RunsAhead, IsLentNext, IsLent, IsLentFor, TakesTurn}
pub use Rattle.sk_crew.specs.Crewed.{start_of, HasCause, IsRefused, IsCrewed}
pub use Rattle.sk_crew.specs.Duties.{AreNew, AllKeepTo, AllWorkOn, OnlyReplies, AllTookTurns, WorksOn, KeepsTo}
pub use Rattle.sk_crew.specs.Duties.{process_of, processes_of, LeadsOn, IsNew, AreNumbered, IsReply, IsDuty}
pub use Rattle.sk_crew.specs.Rounds.{next, is_ended, after, due, fresh}
pub use Rattle.sk_crew.specs.Served.{IsServed, AnswersAll}
pub use Rattle.sk_crew.specs.Turns.{turn_count, TookTurns, AllEnded, IsOf, IsOver, HasTurn, turns_of}
pub use Rattle.sk_crew.specs.declared.crew.CrewFault.{CrewFault}
pub use Rattle.sk_crew.specs.declared.crew.CrewFault.TheVariants.{Memory, Close}
pub use Rattle.sk_crew.specs.declared.crew.CrewPlan.{CrewPlan}
pub use Rattle.sk_crew.specs.declared.rounds.Rounds.{Rounds}
pub use Rattle.sk_ids.specs.declared.entity.Entity.TheVariants.{Proc}
pub use Rattle.sk_kernel.specs.Kernel.{state_at, KernelView}
pub use Rattle.sk_kernel.specs.Opening.{opening_of, OpeningView}
pub use Rattle.sk_kernel.specs.declared.hand_in.HandIn.{HandIn}
pub use Rattle.sk_plain.specs.Act.{Scripts}
pub use Rattle.sk_plain.specs.Leased.{lent_at, Lends}
pub use Rattle.sk_plain.specs.declared.refusal.Refusal.{Refusal}
pub use Rattle.sk_script.specs.Lease.{counted, LeaseView, ran, leased, advanced, LAST_COUNT}
pub use Rattle.sk_script.specs.Private.{private_next}
pub use Rattle.sk_script.specs.Scripts.{script_at}
pub use Rattle.sk_script.specs.declared.instruction.Instruction.{Instruction}
pub use Rattle.sk_script.specs.declared.process.Process.{Process}
pub use Rattle.sk_server.specs.Calls.{Answers}
pub use Rattle.sk_server.specs.Server.{ServerView}
pub use Rattle.sk_server.specs.declared.reply.Reply.{Reply}
pub use Rattle.sk_server.specs.declared.request.Request.{Request}
pub use Rattle.sk_server.specs.declared.server.ServerRefusal.{ServerRefusal}
pub use Rattle.sk_store.specs.declared.entity_state.EntityState.{EntityState}
pub use Rattle.sk_workers.specs.Closing.{begins_turn, IsClosed, next_turn, numbers}
pub use Rattle.sk_workers.specs.History.{TurnTold, Runs, receipt, AreFresh, IsLentAny, entry, Told, AnyTold, HandInTold}
pub use Rattle.sk_workers.specs.History.{IsLeaseOf, fresh as made}
pub use Rattle.sk_workers.specs.Views.{SharedView, WorkerView}
pub use Rattle.sk_workers.specs.declared.entry.Answered.{Answered}
pub use Rattle.sk_workers.specs.declared.entry.Answered.TheVariants.{Turned, HandedIn}
pub use Rattle.sk_workers.specs.declared.entry.DeskCall.{DeskCall}
pub use Rattle.sk_workers.specs.declared.entry.HistoryEntry.{HistoryEntry}
pub use Rattle.sk_workers.specs.declared.entry.Receipt.{Receipt}
pub use native.Mathlib.Numerals.{unary_clauses}
