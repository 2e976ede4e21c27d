-- The names of other crates, and of the types of this one, that definitions and clauses cite. Declares nothing.
pub use Rattle.sk_changes.specs.Changes.{CanUndo, value_after, value_fits, value_undone}
pub use Rattle.sk_changes.specs.declared.change.Change.{Change}
pub use Rattle.sk_changes.specs.declared.change.Undo.{Undo}
pub use Rattle.sk_ids.specs.Entity.{entity_cmp, object_cmp}
pub use Rattle.sk_ids.specs.EntityLemma.{entity_total}
pub use Rattle.sk_ids.specs.Exact.{exact_from}
pub use Rattle.sk_ids.specs.Name.{name_order}
pub use Rattle.sk_ids.specs.Same.{IsExact, exact_map}
pub use Rattle.sk_ids.specs.SameLemma.{exact_entity}
pub use Rattle.sk_ids.specs.declared.entity.Entity.{Entity}
pub use Rattle.sk_ids.specs.declared.entity.Entity.TheVariants.{Copy, Exit, Link, Obj, Proc, Sig}
pub use Rattle.sk_ids.specs.declared.pid.ObjId.{ObjId}
pub use Rattle.sk_objects.specs.Content.{ContentView}
pub use Rattle.sk_objects.specs.ValueLemma.{exact_value}
pub use Rattle.sk_record.specs.Effects.{is_in}
pub use Rattle.sk_record.specs.Run.{put}
pub use Rattle.sk_script.specs.Boot.{BootView}
pub use Rattle.sk_script.specs.Private.{private_step}
pub use Rattle.sk_script.specs.Process.{beginning, root}
pub use Rattle.sk_script.specs.ProcessLemma.{exact_process}
pub use Rattle.sk_script.specs.declared.boot.BootObject.{BootObject}
pub use Rattle.sk_script.specs.declared.boot.BootProcess.{BootProcess}
pub use Rattle.sk_script.specs.declared.boot.ObjectKind.{ObjectKind}
pub use Rattle.sk_script.specs.declared.boot.ObjectKind.TheVariants.{Dir, File, Pipe}
pub use Rattle.sk_script.specs.declared.instruction.Instruction.{Instruction}
pub use Rattle.sk_script.specs.declared.process.Process.{Process}
pub use Rattle.sk_store.specs.declared.back.PutBack.{PutBack}
pub use Rattle.sk_store.specs.declared.back.PutBack.TheVariants.{Changed, Was}
pub use Rattle.sk_store.specs.declared.entity_state.EntityState.{EntityState}
pub use Rattle.sk_store.specs.declared.entity_state.EntityState.TheVariants.{Value}
pub use Rattle.sk_store.specs.declared.present.Present.{Present}
pub use Rattle.std.proofs.Common.{ap, cond, ◌∙◌}
pub use Rattle.std.specs.Borrow.{LendsSo, sem}
pub use Rattle.std.specs.Coded.{Coded, code_by, coded×}
pub use Rattle.std.specs.FinMap.{FinMap, code, empty, get, get-insert, get-remove, insert}
pub use Rattle.std.specs.FinSet.{FinSet, contains, from_list, len}
pub use Rattle.std.specs.List.{All}
pub use Rattle.std.specs.List.Sorted.{IsStrictlySortedBy}
pub use Rattle.std.specs.Option.{option_copied_mut}
pub use Rattle.std.specs.Ordering.{eq_by_cmp}
