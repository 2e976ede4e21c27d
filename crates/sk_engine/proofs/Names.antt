-- What the proofs of this crate cite from outside of them, passed on from one place. Declares nothing.
pub use Rattle.std.proofs.Math.Path.{subst₃}
pub use Rattle.std.proofs.lemmas.Option.{none-some}
pub use Rattle.std.proofs.Common.{ap, Some, Bool, ℕ, subst, inr, true, ◌∷◌, sym, None, inl, suc, ◌≤◌, ◌≡◌, false}
pub use Rattle.std.proofs.Common.{Option, ◌<◌, arith, refl, List, [], ◌∙◌, not, ◌==◌, cond, ⊎_elim}
pub use Rattle.std.proofs.lemmas.Bool.{eqb-false, le-leb, eqb-true, ltb-true, ltb-false, eq-eqb, lt-ltb, leb-false}
pub use Rattle.std.proofs.lemmas.Bool.{and_parts, not-true, cond-true, cond-false, lt-leb, le-ltb, ne_eqb, cases_eq}
pub use Rattle.std.proofs.lemmas.Bool.{cases_lt}
pub use Rattle.std.proofs.lemmas.Slice.Eq.{bytes_eq-Decides}
pub use Rattle.std.specs.Prelude.{◌⊎◌, is_none, if◌then◌else◌, nat_le, nat_lt}
pub use Rattle.std.specs.Str.{bytes_eq}
pub use Rattle.sk_engine.specs.Claims.{new_worded, Begins, ClaimHappens, ClaimMove, ClaimRuns, LeadershipIsOne, LeadTry}
pub use Rattle.sk_engine.specs.Claims.{Worded, is_lead, lead_answer, Claims, Goes}
pub use Rattle.sk_engine.specs.Engine.{may_put, may_fence, may_cut, without_to, without_from, fence_answer, Entries}
pub use Rattle.sk_engine.specs.Engine.{with_entry, batch_answer}
pub use Rattle.sk_engine.specs.Laws.{DecidedStays, StillHasAll, DecidedIsRead, DecidedIsSent, LostIsNeverFound}
pub use Rattle.sk_engine.specs.Moves.{Reads, new_world, Sent, Move, Fences, Ends, whole, MaySend, World, FenceTry, Runs}
pub use Rattle.sk_engine.specs.Moves.{Leads, HasDecided, Happens, owner_of, IsGap, BatchTry, Sends, fence_of, Has}
pub use Rattle.sk_engine.specs.Moves.{Tries, WasLost, batch_of, ServesFrom, Cuts, Needs, after_move}
pub use Rattle.sk_engine.specs.Newest.{new_hosted, round_of, Acts, Asks, Calls, Hosted, HostDoes, HostRuns, Rides}
pub use Rattle.sk_engine.specs.Newest.{IsHeeded, IsKnown, Ride, RoundTry, Step, ToldIsNewest}
pub use Rattle.sk_engine.specs.Rounds.{after_still, no_rounds, CarriesOut, Holds, IsHeld, Loses}
pub use Rattle.sk_engine.specs.Rounds.{RoundCall, RoundDoes, RoundRuns, RoundsView, Takes, ToldBehindARound}
pub use Rattle.sk_engine.specs.Told.{claim_told, lead_told, round_told, fence_told, leads, unfenced_told, refused_told}
pub use Rattle.sk_engine.specs.Told.{held_of, batch_told}
pub use Rattle.sk_engine.specs.declared.answer.BatchAnswer.{BatchAnswer}
pub use Rattle.sk_engine.specs.declared.answer.BatchSeen.{BatchSeen}
pub use Rattle.sk_engine.specs.declared.answer.FenceSeen.{FenceSeen}
pub use Rattle.sk_engine.specs.declared.answer.Held.{Held}
pub use Rattle.sk_engine.specs.declared.answer.Held.TheVariants.{Another, Mine, Absent}
pub use Rattle.sk_engine.specs.declared.request.Batch.{Batch}
pub use Rattle.sk_engine.specs.declared.request.Fence.{Fence}
pub use Rattle.sk_engine.specs.declared.request.Told.TheVariants.{Breach, Lost, Unknowable, Over, Still, Serves}
pub use Rattle.sk_engine.specs.declared.request.Told.TheVariants.{Synced, Claimed, Waits}
pub use Rattle.sk_engine.specs.declared.answer.LeadAnswer.{LeadAnswer}
pub use Rattle.sk_engine.specs.declared.answer.RoundAnswer.{RoundAnswer}
pub use Rattle.sk_engine.specs.declared.answer.RoundAnswer.TheVariants.{Seen}
