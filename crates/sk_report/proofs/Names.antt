-- What the proofs of this crate cite from outside of them, passed on from one place. Declares nothing.
pub use Rattle.std.proofs.Common.{ap, ◌*◌, IfOk, ◌++◌, length, take-add, Bool, cond, ℕ, subst, true, drop, ◌∷◌, sym}
pub use Rattle.std.proofs.Common.{of_calls, ap₂, suc, zero, ◌≤◌, ◌≡◌, rules, take, ◌-◌, ◌+◌, false, ◌<◌, arith, refl}
pub use Rattle.std.proofs.Common.{List, [], ◌∙◌, map, Option, Some, None, IfSome, ◌≢◌}
pub use Rattle.std.proofs.KnownBytes.{Appends-trans}
pub use Rattle.std.proofs.lemmas.Bool.{true≢false}
pub use Rattle.std.proofs.lemmas.Fmt.{length-decimal-le}
pub use Rattle.std.proofs.lemmas.Grind.{common_steps}
pub use Rattle.std.proofs.lemmas.List.{length-drop, take_all, take_rest, get_or-drop, append-nil, at_drop_all}
pub use Rattle.std.proofs.lemmas.List.{append_assoc, drop_all}
pub use Rattle.std.proofs.lemmas.List.Concat.{flat_map-append}
pub use Rattle.std.proofs.lemmas.List.Sorted.{IsPartitionPoint-from_clause}
pub use Rattle.std.proofs.lemmas.Map.Keys.{sorted_tail, sorted_head}
pub use Rattle.std.specs.Cmp.{IsTotalOrder}
pub use Rattle.std.specs.Fmt.{HasWritten, IsPlainFormatter}
pub use Rattle.std.specs.Io.KnownBytes.{Appends}
pub use Rattle.std.specs.List.{filter, AllByRecursion}
pub use Rattle.std.specs.List.Sorted.{IsPartitionedBy, IsPartitionPoint, IsStrictlySortedBy}
pub use Rattle.std.specs.Ordering.{ordering_then, is_eq, ordering_reverse, is_lt}
pub use Rattle.std.specs.Prelude.{codes, decimal, flat_map, slice_index_or, OnOk}
pub use Rattle.std.specs.declared.cmp.Ordering.{Ordering}
pub use Rattle.std.specs.declared.cmp.Ordering.TheVariants.{Equal, Greater, Less}
pub use Rattle.sk_ids.specs.Entity.{object_cmp, entity_cmp}
pub use Rattle.sk_ids.specs.Name.{name_order}
pub use Rattle.sk_ids.specs.contracts.pid.ObjIdOrd.TheImpl.Laws.{total-law}
pub use Rattle.sk_ids.specs.declared.entity.Entity.{Entity}
pub use Rattle.sk_ids.specs.declared.entity.Entity.TheVariants.{Link, Proc, Copy, Exit, Sig, Obj}
pub use Rattle.sk_ids.specs.declared.pid.ObjId.{ObjId}
pub use Rattle.sk_kernel.specs.Calls.{ShowsTerminal}
pub use Rattle.sk_kernel.specs.Kernel.{texts_at, KernelView, tags_at, undecided_at}
pub use Rattle.sk_kernel.proofs.Names.{said_at}
pub use Rattle.sk_objects.specs.File.{part}
pub use Rattle.sk_objects.specs.declared.value.Value.{Value}
pub use Rattle.sk_objects.specs.declared.value.Value.TheVariants.{Dir}
pub use Rattle.sk_report.specs.Directories.{is_name_of, is_before, link_text, names_under}
pub use Rattle.sk_report.specs.Printed.{entity_text}
pub use Rattle.sk_report.specs.Report.{line_of, texts_lines}
pub use Rattle.sk_report.specs.Report.{counts_line, said_there, with_terminals}
pub use Rattle.sk_store.specs.declared.entity_state.EntityState.{EntityState}
pub use Rattle.sk_store.specs.declared.entity_state.EntityState.TheVariants.{Process as StoredProcess}
pub use Rattle.sk_store.specs.declared.entity_state.EntityState.TheVariants.{Value as StoredValue}
pub use Rattle.sk_store.specs.Present.{entities_of}
pub use Rattle.sk_store.specs.declared.present.Present.{Present}
pub use Rattle.sk_terminal.specs.Terminal.{TaggedText}
pub use Rattle.sk_words.specs.Spelling.{spelled_byte}
