-- The names of other crates, and of the types of this one, that definitions and clauses cite. Declares nothing.
pub use Rattle.sk_guesses.specs.Calls.{redeemed}
pub use Rattle.sk_guesses.specs.Guesses.{GuessesView, decided, drawn, is_full, next_of, opened, settled, status_of, status_since, undecided_of}
pub use Rattle.sk_guesses.specs.Opens.{OpenGuess, dependents_of, opens_of}
pub use Rattle.sk_guesses.specs.Room.{HasRoom, Roomy}
pub use Rattle.sk_ids.specs.Entity.{entity_cmp}
pub use Rattle.sk_ids.specs.declared.entity.Entity.{Entity}
pub use Rattle.sk_ids.specs.declared.entity.Entity.TheVariants.{Exit, Proc, Sig}
pub use Rattle.sk_plain.specs.Act.{Saying, Scripts, act, plain}
pub use Rattle.sk_plain.specs.Leased.{alone_reads}
pub use Rattle.sk_plain.specs.Plan.{PlanView}
pub use Rattle.sk_plain.specs.Planned.{effect_of, looked_at, read_by, said_by, signals_read, texts_after, writes_of}
pub use Rattle.sk_plain.specs.Seen.{CanPerform, DoesNext, looked, looks_of, seen_with, written_in, written_row}
pub use Rattle.sk_plain.specs.declared.plan.Plan.{Plan}
pub use Rattle.sk_record.specs.Effects.{MarkedEffect, is_in, is_marked, written_value}
pub use Rattle.sk_record.specs.Machine.{Fails, Machine, Tagged}
pub use Rattle.sk_record.specs.Merged.{HandsIn, MergedCommits, MergedTakes, Merges, alone_tags}
pub use Rattle.sk_record.specs.Notes.{has, last_tags, noted}
pub use Rattle.sk_record.specs.Step.{perform}
pub use Rattle.sk_record.specs.Trace.{marks}
pub use Rattle.sk_record.specs.UndoState.{IsTidy, Open, UndoState, numbers, step_tags, tags_at}
pub use Rattle.sk_record.specs.declared.status.Status.{Status}
pub use Rattle.sk_record.specs.declared.status.Status.TheVariants.{Committed, Undecided}
pub use Rattle.sk_script.specs.declared.instruction.Input.{Input}
pub use Rattle.sk_script.specs.declared.process.Process.{Process}
pub use Rattle.sk_store.specs.Names.{IsCount, name_there}
pub use Rattle.sk_store.specs.Processes.{IsProcess}
pub use Rattle.sk_store.specs.Start.{start_of}
pub use Rattle.sk_store.specs.State.{State}
pub use Rattle.sk_store.specs.declared.entity_state.EntityState.{EntityState}
pub use Rattle.sk_terminal.specs.Terminal.{TaggedText}
pub use Rattle.sk_terminal.specs.Terminals.{TerminalMap, terminals_code, texts_at}
pub use Rattle.sk_trace.specs.Entry.{EntryView}
pub use Rattle.sk_trace.specs.Kept.{input_in}
pub use Rattle.sk_undo.specs.Decisions.{AllGrow, AllRest, Lightened, undo_state}
pub use Rattle.sk_undo.specs.Log.{is_empty}
pub use Rattle.sk_undo.specs.Logs.{SlotMap, log_at, look_at, slot_map_code}
pub use Rattle.std.specs.Coded.{Coded, code_by, coded_list, coded_ℕ, coded×}
pub use Rattle.std.specs.List.{All, list_any}
pub use Rattle.std.specs.List.Sorted.{IsStrictlySortedBy}
pub use Rattle.std.specs.Option.{option_copied}
pub use Rattle.std.specs.Ordering.{nat_cmp}
pub use Rattle.std.specs.declared.alloc.AllocError.{AllocError}
