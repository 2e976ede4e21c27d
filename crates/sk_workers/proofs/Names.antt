-- What the proofs of this crate cite from outside of them, passed on from one place. Declares nothing.
pub use Rattle.std.proofs.Common.{ap, ◌++◌, length, Bool, ◌≤◌, ℕ, vec_len, subst, inr, true, vec_capacity, Ok, ◌∷◌, sym}
pub use Rattle.std.proofs.Common.{length-append, Err, inl, suc, zero, ◌≡◌, ◌+◌, false, ◌<◌, arith, refl, List, Result}
pub use Rattle.std.proofs.Common.{[], ◌∙◌, cond}
pub use Rattle.std.proofs.lemmas.Bool.{false≢true}
pub use Rattle.std.proofs.lemmas.Option.{slice_get_within, same_Some}
pub use Rattle.std.specs.Prelude.{slice_get, Some, MatchOption, None, IfErr, Option}
pub use Rattle.sk_client.specs.Desk.{given_to, requests_taken, stepped, given, decided, input_of, first_taken, DeskView}
pub use Rattle.sk_client.specs.Desk.{pending, answered, turned, rule, is_void, Rule}
pub use Rattle.sk_client.specs.DeskCalls.{ReplyPost, ByRule, TurnPost, handed_back}
pub use Rattle.sk_client.specs.Leasing.{DeskTakesIn, DeskHandInPost}
pub use Rattle.sk_client.specs.declared.desk.Given.{Given}
pub use Rattle.sk_client.specs.declared.desk.ReplyRefusal.{ReplyRefusal}
pub use Rattle.sk_client.specs.declared.desk.Turn.{Turn}
pub use Rattle.sk_client.specs.Pending.{PendingRequest}
pub use Rattle.sk_kernel.specs.Kernel.{undecided_at, step_refused}
pub use Rattle.sk_kernel.specs.declared.hand_in.HandIn.{HandIn}
pub use Rattle.sk_kernel.specs.declared.hand_in.HandIn.TheVariants.{Stale, Memory}
pub use Rattle.sk_plain.specs.declared.refusal.Refusal.{Refusal}
pub use Rattle.sk_record.specs.Notes.{has}
pub use Rattle.sk_script.specs.Lease.{LeaseView, after_private}
pub use Rattle.sk_script.specs.declared.instruction.Input.{Input}
pub use Rattle.sk_server.specs.declared.reply.Answer.{Answer}
pub use Rattle.sk_server.specs.declared.reply.Reply.{Reply}
pub use Rattle.sk_workers.specs.Closing.{receipts_of, Disagrees, Stands, IsFirstBad, AreDistinct, AllStand, IsClosed}
pub use Rattle.sk_workers.specs.Closing.{IsFrom, Agrees, numbers, AreApart}
pub use Rattle.sk_workers.specs.History.{entry, HandInAdds, TurnTold, Runs, answer_alone, IsLegal, AnyTold, receipt}
pub use Rattle.sk_workers.specs.History.{AreFresh, as_opened, HandInTold, CallPost, TakesAny, TakesInAdds, TurnAdds}
pub use Rattle.sk_workers.specs.History.{AreOwn, HandsIn}
pub use Rattle.sk_workers.specs.Invariants.{IsTidyBook, IsTidyWorker}
pub use Rattle.sk_workers.specs.Views.{SharedView, BookView, WorkerView}
pub use Rattle.sk_workers.specs.declared.entry.Answered.{Answered}
pub use Rattle.sk_workers.specs.declared.entry.Answered.TheVariants.{Turned, Replied, HandedIn}
pub use Rattle.sk_workers.specs.declared.entry.DeskCall.{DeskCall}
pub use Rattle.sk_workers.specs.declared.entry.HistoryEntry.{HistoryEntry}
pub use Rattle.sk_workers.specs.declared.entry.Receipt.{Receipt}
