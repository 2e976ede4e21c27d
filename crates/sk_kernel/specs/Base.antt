-- The names of other crates, and of the types of this one, that definitions and clauses cite. Declares nothing.
pub use Rattle.sk_guesses.specs.Token.{Token}
pub use Rattle.sk_guesses.specs.declared.guesses.TheConstants.{GUESS_LIMIT}
pub use Rattle.sk_ids.specs.Entity.{entity_cmp}
pub use Rattle.sk_ids.specs.Same.{IsExact}
pub use Rattle.sk_ids.specs.declared.entity.Entity.{Entity}
pub use Rattle.sk_ids.specs.declared.entity.Entity.TheVariants.{Proc}
pub use Rattle.sk_ids.specs.declared.guess.TheConstants.{LAST_GUESS}
pub use Rattle.sk_ids.specs.declared.pid.ObjId.{ObjId}
pub use Rattle.sk_kernel.specs.declared.footprint.Footprint.{Footprint}
pub use Rattle.sk_kernel.specs.declared.hand_in.HandIn.{HandIn}
pub use Rattle.sk_kernel.specs.declared.hand_in.HandIn.TheVariants.{Memory, Stale, TraceFull}
pub use Rattle.sk_kernel.specs.declared.kernel.EpochRefusal.{EpochRefusal}
pub use Rattle.sk_kernel.specs.declared.kernel.FailRefusal.{FailRefusal}
pub use Rattle.sk_kernel.specs.declared.kernel.Outcome.{Outcome}
pub use Rattle.sk_kernel.specs.declared.kernel.Stranger.{Stranger}
pub use Rattle.sk_kernel.specs.declared.room.TheConstants.{DIRECTORY_LIMIT}
pub use Rattle.sk_machine.specs.Parts.{Parts, is_empty, look_at, machine_of, said_at}
pub use Rattle.sk_machine.specs.Performed.{AreApart}
pub use Rattle.sk_plain.specs.Act.{Saying, act, plain}
pub use Rattle.sk_plain.specs.Adds.{adds_in}
pub use Rattle.sk_plain.specs.Next.{next_of, unplanned}
pub use Rattle.sk_plain.specs.Plain.{PlainView, plain_code}
pub use Rattle.sk_plain.specs.Planned.{IsBeside, effect_of, refusal_of}
pub use Rattle.sk_plain.specs.Refusal.{cause}
pub use Rattle.sk_plain.specs.Replay.{image}
pub use Rattle.sk_plain.specs.Same.{exact_plain, same_plain}
pub use Rattle.sk_plain.specs.Seen.{CanPerform, PlansStep, seen_with, told}
pub use Rattle.sk_plain.specs.View.{Shows}
pub use Rattle.sk_plain.specs.declared.next.Next.{Next}
pub use Rattle.sk_plain.specs.declared.plan.Plan.{Plan}
pub use Rattle.sk_plain.specs.declared.refusal.Refusal.{Refusal}
pub use Rattle.sk_plain.specs.declared.refusal.Refusal.TheVariants.{Ended, Mismatch, NoProcess, NoRoom, TooMany}
pub use Rattle.sk_record.specs.Effects.{is_in, is_marked, written_value}
pub use Rattle.sk_record.specs.Epoch.{IsEpoch, StatusSince, status_in}
pub use Rattle.sk_record.specs.Machine.{Tagged, released}
pub use Rattle.sk_record.specs.Merged.{MergedStands}
pub use Rattle.sk_record.specs.Notes.{has, tags_along}
pub use Rattle.sk_record.specs.Release.{IsReleased, said, said_with}
pub use Rattle.sk_record.specs.Run.{effects, outcome, run}
pub use Rattle.sk_record.specs.Step.{Effect, perform}
pub use Rattle.sk_record.specs.Trace.{Commit, Event as Happens, Fail, IsDrawn, IsTagOf, all_recorded, deps, no_record, record_of, undecided_of}
pub use Rattle.sk_record.specs.UndoState.{log_of}
pub use Rattle.sk_record.specs.declared.status.Status.{Status}
pub use Rattle.sk_record.specs.declared.status.Status.TheVariants.{Struck, Undecided}
pub use Rattle.sk_script.specs.Boot.{BootView}
pub use Rattle.sk_script.specs.Lease.{LeaseView, after_private}
pub use Rattle.sk_script.specs.Scripts.{ScriptMap, script_map_code}
pub use Rattle.sk_script.specs.declared.instruction.Input.{Input}
pub use Rattle.sk_script.specs.declared.process.Process.{Process}
pub use Rattle.sk_store.specs.Names.{IsCount, name_there, names_in}
pub use Rattle.sk_store.specs.Present.{IsPresent, entities_of}
pub use Rattle.sk_store.specs.Start.{start_of}
pub use Rattle.sk_store.specs.State.{State, state_code}
pub use Rattle.sk_store.specs.declared.entity_state.EntityState.{EntityState}
pub use Rattle.sk_terminal.specs.Terminal.{TaggedText, waiting_of}
pub use Rattle.sk_terminal.specs.Terminals.{TerminalMap, released_at}
pub use Rattle.sk_trace.specs.Entry.{EntryView}
pub use Rattle.sk_trace.specs.Kept.{input_in}
pub use Rattle.sk_trace.specs.Trace.{TraceView, event_code}
pub use Rattle.sk_trace.specs.declared.event.Event.{Event}
pub use Rattle.std.proofs.Common.{ap}
pub use Rattle.std.proofs.lemmas.Bool.Decides.{Decides-and, Decides-like}
pub use Rattle.std.specs.Cmp.{unsigned_Decides}
pub use Rattle.std.specs.Coded.{Coded, code_by, coded_list, coded_ℕ, coded×}
pub use Rattle.std.specs.List.{All, Contains, fold, list_all, list_any, remove, sum_by}
pub use Rattle.std.specs.List.Sorted.{IsStrictlySortedBy}
pub use Rattle.std.specs.Ordering.{eq_by_cmp}
