-- The names of other crates, and of the types of this one, that definitions and clauses cite. Declares nothing.
pub use Rattle.sk_changes.specs.Changes.{CanUndo, value_undone}
pub use Rattle.sk_changes.specs.declared.change.Undo.{Undo}
pub use Rattle.sk_ids.specs.Entity.{entity_cmp, object_cmp}
pub use Rattle.sk_ids.specs.EntityLemma.{entity_exact, entity_total}
pub use Rattle.sk_ids.specs.Name.{name_order}
pub use Rattle.sk_ids.specs.declared.entity.Entity.{Entity}
pub use Rattle.sk_ids.specs.declared.entity.Entity.TheVariants.{Copy, Exit, Link, Obj, Proc, Sig}
pub use Rattle.sk_ids.specs.declared.pid.ObjId.{ObjId}
pub use Rattle.sk_map.specs.Seen.{seen}
pub use Rattle.sk_objects.specs.declared.value.Value.{Value}
pub use Rattle.sk_record.specs.Effects.{is_in}
pub use Rattle.sk_record.specs.Merged.{Merges, merged, same_tags}
pub use Rattle.sk_record.specs.Notes.{Note, committed, cut, has, last_tags, unwound, without}
pub use Rattle.sk_record.specs.Run.{put}
pub use Rattle.sk_record.specs.UndoState.{IsGrowing, Open, UndoState}
pub use Rattle.sk_script.specs.declared.process.Process.{Process}
pub use Rattle.sk_store.specs.Changed.{FitsAt, StateFits, changed, state_undone}
pub use Rattle.sk_store.specs.Names.{IsCount, name_there}
pub use Rattle.sk_store.specs.Present.{IsPresent, Shown, entities_of, shown}
pub use Rattle.sk_store.specs.Processes.{CanBecome, IsProcess, IsReadable, became, process_in}
pub use Rattle.sk_store.specs.declared.back.PutBack.{PutBack}
pub use Rattle.sk_store.specs.declared.back.PutBack.TheVariants.{Changed, Was}
pub use Rattle.sk_store.specs.declared.entity_state.EntityState.{EntityState}
pub use Rattle.sk_undo.specs.declared.keys.LinkKey.{LinkKey}
pub use Rattle.sk_undo.specs.declared.log.Note.{Note as RawNote}
pub use Rattle.sk_undo.specs.declared.slots.TakeBack.{TakeBack}
pub use Rattle.sk_undo.specs.declared.slots.TakeBack.TheVariants.{DropSlot, UndoLast}
pub use Rattle.std.proofs.Common.{ap, cond, subst, sym, ◌∙◌}
pub use Rattle.std.specs.Borrow.{LendsSo, sem}
pub use Rattle.std.specs.Coded.{Coded, code_by, coded_list, coded_option, coded_ℕ, coded×}
pub use Rattle.std.specs.FinMap.{FinMap, IsAntisymmetric, contains_key, entries, from_entries, get, get-insert, get-remove, insert, remove}
pub use Rattle.std.specs.FinSet.{FinSet, contains, len}
pub use Rattle.std.specs.List.{All, list_all, list_any, prefix_len, sum_by}
pub use Rattle.std.specs.List.Sorted.{IsStrictlySortedBy}
pub use Rattle.std.specs.Option.{option_copied, option_copied_mut, unwrap_or}
pub use Rattle.std.specs.Ordering.{eq_by_cmp, nat_cmp, ordering_then}
pub use Rattle.std.specs.Vec.{vec_capacity, vec_len}
pub use Rattle.std.specs.declared.cmp.Ordering.{Ordering}
pub use Rattle.std.specs.declared.vec.Vec.{Vec}
