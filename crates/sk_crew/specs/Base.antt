-- The names of other crates, and of the types of this one, that definitions and clauses cite. Declares nothing.
pub use Rattle.crossbeam_queue.specs.Passes.{view}
pub use Rattle.sk_client.specs.Desk.{DeskView, opened_at, pending}
pub use Rattle.sk_client.specs.Leasing.{desk_lease}
pub use Rattle.sk_client.specs.declared.desk.Turn.{Turn}
pub use Rattle.sk_crew.specs.declared.crew.CrewFault.{CrewFault}
pub use Rattle.sk_crew.specs.declared.crew.CrewPlan.{CrewPlan}
pub use Rattle.sk_crew.specs.declared.rounds.Rounds.{Rounds}
pub use Rattle.sk_ids.specs.declared.entity.Entity.{Entity}
pub use Rattle.sk_ids.specs.declared.pid.Pid.{Pid}
pub use Rattle.sk_kernel.specs.Kernel.{state_at}
pub use Rattle.sk_kernel.specs.Opening.{opening_of}
pub use Rattle.sk_kernel.specs.declared.hand_in.HandIn.{HandIn}
pub use Rattle.sk_plain.specs.Leased.{Lends}
pub use Rattle.sk_plain.specs.declared.refusal.Refusal.{Refusal}
pub use Rattle.sk_script.specs.Lease.{LeaseView}
pub use Rattle.sk_server.specs.Calls.{Answers}
pub use Rattle.sk_server.specs.Server.{ServerView}
pub use Rattle.sk_server.specs.declared.reply.Reply.{Reply}
pub use Rattle.sk_server.specs.declared.request.Request.{Request}
pub use Rattle.sk_wire.specs.Calls.{PopPost}
pub use Rattle.sk_wire.specs.Rule.{sender, with_sent}
pub use Rattle.sk_wire.specs.Wire.{IsReceiving, IsSending}
pub use Rattle.sk_wire.specs.declared.rule.TheConstants.{WIRE_ITEMS}
pub use Rattle.sk_workers.specs.Closing.{AreDistinct, IsClosed, Refuses, begins_turn, numbers}
pub use Rattle.sk_workers.specs.History.{AreFresh, IsLegal, Runs, Told, TurnTold, fresh}
pub use Rattle.sk_workers.specs.Views.{BookView, SharedView, WorkerView}
pub use Rattle.sk_workers.specs.declared.entry.Answered.{Answered}
pub use Rattle.sk_workers.specs.declared.entry.DeskCall.{DeskCall}
pub use Rattle.sk_workers.specs.declared.entry.HistoryEntry.{HistoryEntry}
pub use Rattle.sk_workers.specs.declared.entry.Receipt.{Receipt}
pub use Rattle.sk_workers.specs.declared.worker.TheConstants.{WORKERS_LIMIT}
pub use Rattle.std.specs.List.{Contains, sum_by}
pub use Rattle.std.specs.Thread.{IsSync}
