-- The names of other crates, and of the types of this one, that definitions and clauses cite. Declares nothing.
pub use Rattle.sk_changes.specs.Changes.{value_after}
pub use Rattle.sk_changes.specs.declared.change.Change.{Change}
pub use Rattle.sk_changes.specs.declared.change.Change.TheVariants.{CutTo, PushSignal, Put, SetCopy, Shut, Take, TakeSignal, WriteAt}
pub use Rattle.sk_ids.specs.Entity.{entity_cmp}
pub use Rattle.sk_ids.specs.declared.entity.Entity.{Entity}
pub use Rattle.sk_ids.specs.declared.entity.Entity.TheVariants.{Copy, Exit, Link, Obj, Proc, Sig}
pub use Rattle.sk_ids.specs.declared.pid.ObjId.{ObjId}
pub use Rattle.sk_ids.specs.declared.text.TheConstants.{TEXT_LIMIT}
pub use Rattle.sk_objects.specs.Content.{ContentView}
pub use Rattle.sk_objects.specs.Value.{bytes_from, empty_of, target_of}
pub use Rattle.sk_objects.specs.declared.content.TheConstants.{LAST_VERSION}
pub use Rattle.sk_objects.specs.declared.signals.TheConstants.{LAST_SIGNAL, SIGNALS_LIMIT}
pub use Rattle.sk_objects.specs.declared.value.Kind.{Kind}
pub use Rattle.sk_objects.specs.declared.value.Value.{Value}
pub use Rattle.sk_plain.specs.declared.plan.Beside.{Beside}
pub use Rattle.sk_plain.specs.declared.plan.Plan.{Plan}
pub use Rattle.sk_plain.specs.declared.plan.Row.{Row}
pub use Rattle.sk_plain.specs.declared.plan.Writes.{Writes}
pub use Rattle.sk_plain.specs.declared.refusal.Errno.{Errno}
pub use Rattle.sk_plain.specs.declared.refusal.Errno.TheVariants.{Again, BadObject, BrokenPipe, Exists, Invalid, IsDirectory, NoChild, NoSpace, NoSuchProcess, NotDirectory, NotLinked, StaleCopy, TooBig}
pub use Rattle.sk_plain.specs.declared.refusal.Refusal.{Refusal}
pub use Rattle.sk_plain.specs.declared.refusal.Refusal.TheVariants.{Blocked, Ended, Memory, Mismatch, NeedsReply, NoProcess, NoRoom, TooMany, TraceFull}
pub use Rattle.sk_record.specs.Effects.{hits, is_in, is_marked, keep}
pub use Rattle.sk_record.specs.Notes.{has}
pub use Rattle.sk_record.specs.Run.{IsLegal, System, after, effects, outcome, put_all, run}
pub use Rattle.sk_record.specs.Step.{Ask, Done, Effect, Refuse, Step, perform}
pub use Rattle.sk_record.specs.Trace.{Commit, Event as Happens, Fail, IsAllowed, IsDrawn, IsSound, Record, Taken, all_recorded, marks, no_record, record_of, recorded}
pub use Rattle.sk_script.specs.Boot.{BootView}
pub use Rattle.sk_script.specs.Private.{given, moved, private_step}
pub use Rattle.sk_script.specs.Registers.{held}
pub use Rattle.sk_script.specs.Scripts.{ScriptMap, script_at, script_map_code}
pub use Rattle.sk_script.specs.declared.instruction.Input.{Input}
pub use Rattle.sk_script.specs.declared.instruction.Instruction.{Instruction}
pub use Rattle.sk_script.specs.declared.process.Process.{Process}
pub use Rattle.sk_script.specs.declared.register.Val.{Val}
pub use Rattle.sk_store.specs.Processes.{IsProcess, became, process_in}
pub use Rattle.sk_store.specs.State.{State, state_code}
pub use Rattle.sk_store.specs.declared.entity_state.EntityState.{EntityState}
pub use Rattle.sk_terminal.specs.Terminals.{TerminalMap, said_to, terminals_code, texts_at}
pub use Rattle.sk_trace.specs.Entry.{EntryView}
pub use Rattle.sk_trace.specs.Kept.{input_in}
pub use Rattle.sk_trace.specs.declared.event.Event.{Event}
pub use Rattle.std.specs.FinMap.{get}
pub use Rattle.std.specs.List.{All, AllByRecursion, list_any, prefix_len}
pub use Rattle.std.specs.Option.{option_copied, option_map, option_or}
