-- What the proofs of this crate cite from outside of them, passed on from one place. Declares nothing.
pub use Rattle.std.proofs.Common.{Some, Bool, subst, inr, Ok, ◌∷◌, Err, inl, ◌&&◌, zero, ◌≡◌, ◌+◌, Option, arith, map}
pub use Rattle.std.proofs.Common.{List, ap, ◌++◌, length, ◌||◌, ℕ, true, drop, sym, None, suc, ◌≤◌, take, false, ◌<◌}
pub use Rattle.std.proofs.Common.{refl, Result, [], length-set, ◌∙◌, not, cond}
pub use Rattle.std.proofs.Math.Bool.{or_assoc}
pub use Rattle.std.proofs.Math.Seq.{drop-cons}
pub use Rattle.std.proofs.lemmas.Bool.{true≢false, or_right, or_cases, or_left, false≢true, eqb-true, eq-eqb}
pub use Rattle.std.proofs.lemmas.Grind.{reverse_onto}
pub use Rattle.std.proofs.lemmas.List.{append-nil}
pub use Rattle.std.proofs.lemmas.List.Folds.{list_any-append}
pub use Rattle.std.specs.Cmp.{eq_by_cmp_equiv, both_ways, Equal-is}
pub use Rattle.std.specs.List.{filter, Contains, AllByRecursion, list_any}
pub use Rattle.std.specs.List.Sorted.{IsStrictlySortedBy}
pub use Rattle.std.specs.Ordering.{nat_cmp, eq_by_cmp}
pub use Rattle.std.specs.Prelude.{reverse, IfOk, ◌↔◌, slice_index_or, OnErr, OnOk, ◌==◌}
pub use Rattle.std.specs.Result.{is_err}
pub use Rattle.sk_guesses.proofs.Opens.{taken_opens, but_taken, none_there, all_kept, failed_status, same_opens}
pub use Rattle.sk_guesses.proofs.Opens.{left_to_keeps}
pub use Rattle.sk_guesses.proofs.Places.{tied_is}
pub use Rattle.sk_guesses.proofs.Statuses.{status-decided, status-drawn}
pub use Rattle.sk_guesses.specs.EntitySet.{with_entities}
pub use Rattle.sk_guesses.specs.Guesses.{decided, drawn, next_of, status_since, GuessesView}
pub use Rattle.sk_guesses.specs.Opens.{left_to, but, depending, dependents_of, opens_of, OpenGuess, not_resting}
pub use Rattle.sk_guesses.specs.Opens.{after_commit}
pub use Rattle.sk_ids.specs.EntityLemma.{entity_total, entity_exact}
pub use Rattle.sk_ids.specs.SameLemma.{exact_bytes}
pub use Rattle.sk_ids.specs.Entity.{entity_cmp}
pub use Rattle.sk_ids.specs.declared.entity.Entity.{Entity}
pub use Rattle.sk_ids.specs.declared.entity.Entity.TheVariants.{Link, Proc, Sig, Obj, Copy, Exit}
pub use Rattle.sk_guesses.specs.Dependents.{with_tags, Depends}
pub use Rattle.sk_machine.specs.Dependents.{tags_in, AllExact, Covers, IsEnough, RestAlike}
pub use Rattle.sk_machine.specs.Dependents.{AllAlmostExact, IsOrdered, RestsAsProcess}
pub use Rattle.sk_machine.specs.Parts.{said_at, planned_effect, undo_state_of, any_rests, Parts, machine_of}
pub use Rattle.sk_machine.specs.Parts.{IsPlanned}
pub use Rattle.sk_machine.specs.Performed.{Performed, AreApart, IsClean, entities_of, planned_writes, CanPerformWith}
pub use Rattle.sk_machine.specs.Performed.{HasPerformed}
pub use Rattle.sk_machine.specs.Taken.{CanTake, HasTaken, HandsInProcess}
pub use Rattle.sk_machine.specs.contracts.machine.Machine.{the_view}
pub use Rattle.sk_plain.proofs.Plans.{written_is}
pub use Rattle.sk_plain.proofs.Scan.{changed_are, asked}
pub use Rattle.sk_plain.specs.Act.{plain, Scripts, act, next_in, Saying}
pub use Rattle.sk_plain.specs.Leased.{alone_reads}
pub use Rattle.sk_plain.specs.Plan.{PlanView, LooksView, BesideView, Nowhere, Birth, Gone, One, Nothing, Says}
pub use Rattle.sk_plain.specs.Planned.{said_by as said_in_plan, writes_of, looked_at, effect_of, gone_in, wrote_all}
pub use Rattle.sk_plain.specs.Planned.{read_by, IsNoProcess, texts_after, written_beside, IsBeside, written_by}
pub use Rattle.sk_plain.specs.Planned.{signals_read}
pub use Rattle.sk_plain.specs.Seen.{done_by, seen_with, written_in, looks_of, CanPerform, looked}
pub use Rattle.sk_plain.specs.declared.plan.Plan.{Plan}
pub use Rattle.sk_plain.specs.declared.plan.Plan.TheVariants.{Private}
pub use Rattle.sk_record.proofs.Merged.{both_more, in_turn, left_out, none_left}
pub use Rattle.sk_record.proofs.Rising.{above, union_is_tags}
pub use Rattle.sk_record.proofs.UndoStates.{tidy_clean, and_both}
pub use Rattle.sk_record.proofs.Values.{is_in_tied}
pub use Rattle.sk_record.specs.Effects.{writes, MarkedEffect, is_marked, touches, written_value, is_in}
pub use Rattle.sk_record.specs.Machine.{rests_on, lightened, with_drawn, Fails, not_dropped, with_failure, with_status}
pub use Rattle.sk_record.specs.Merged.{MergedTakes, same_tags, MergedCommits, HandsIn, Merges, alone_tags}
pub use Rattle.sk_record.specs.Notes.{Note, noted, without, last_tags, has}
pub use Rattle.sk_record.specs.Release.{said_by}
pub use Rattle.sk_record.specs.Step.{perform}
pub use Rattle.sk_record.specs.Trace.{marks}
pub use Rattle.sk_record.specs.UndoState.{opened, step_tags, still_open, IsTidy, not_struck, tags_at, numbers, Open}
pub use Rattle.sk_record.specs.declared.status.Status.TheVariants.{Failed, Committed, Struck, Undecided}
pub use Rattle.sk_script.specs.declared.instruction.Input.{Input}
pub use Rattle.sk_script.specs.declared.instruction.Instruction.{Instruction}
pub use Rattle.sk_script.specs.declared.process.Process.{Process}
pub use Rattle.sk_store.specs.Processes.{IsProcess, became, done, process_in}
pub use Rattle.sk_store.specs.declared.entity_state.EntityState.{EntityState}
pub use Rattle.sk_terminal.proofs.SaidTo.{texts_said}
pub use Rattle.sk_terminal.specs.Terminal.{TaggedText}
pub use Rattle.sk_terminal.specs.Terminals.{TerminalMap, texts_at}
pub use Rattle.sk_trace.specs.Entry.{EntryView}
pub use Rattle.sk_trace.specs.Kept.{input_in}
pub use Rattle.sk_undo.proofs.Passes.{placed_at}
pub use Rattle.sk_undo.proofs.SeenNotes.{newest_of, none_reverse}
pub use Rattle.sk_undo.proofs.Stable.{on_many}
pub use Rattle.sk_undo.specs.Count.{notes_in, AreUnnoted, note_count}
pub use Rattle.sk_undo.specs.Decisions.{Unwound, AllGrow, Lightened, AreListed, undo_state}
pub use Rattle.sk_undo.specs.Log.{is_empty}
pub use Rattle.sk_undo.specs.Logs.{log_at, wrote, LogsView, slots_wrote, SlotMap, slot_in, look_at}
pub use Rattle.sk_undo.specs.Slot.{is_whole, goes_unnoted, noted_on, slot_wrote, SlotView}
