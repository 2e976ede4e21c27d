-- What the proofs of this crate cite from outside of them, passed on from one place. Declares nothing.
pub use Rattle.std.proofs.Common.{List, ◌-◌, ◌+◌, ℕ, ap, ◌&&◌, refl, rules, ◌∷◌, None, false, drop, sym, ◌∙◌, ◌||◌, not}
pub use Rattle.std.proofs.Common.{subst, Option, ◌≡◌, true, Some, Bool, IsSome, [], cond}
pub use Rattle.std.proofs.lemmas.Bool.Decides.{Decides-at}
pub use Rattle.std.proofs.lemmas.Map.Lookups.{exact_bytes}
pub use Rattle.std.proofs.lemmas.Result.{IfOk-weaker}
pub use Rattle.std.specs.Cmp.{Equal-is, IsTotalOrder, eq_by_cmp_equiv}
pub use Rattle.std.specs.Cmp.Lexicographic.{nat_list_cmp_total}
pub use Rattle.std.specs.FinMap.{remove, get, get-remove, same_map, get-insert, FinMap, insert}
pub use Rattle.std.specs.FinSet.{len, contains-from_list, len-remove, same_set, contains-remove, contains-insert}
pub use Rattle.std.specs.FinSet.{len-insert, from_list}
pub use Rattle.std.specs.List.{cons_option, filter_map, list_any}
pub use Rattle.std.specs.Ordering.{eq_by_cmp, ordering_then, is_eq}
pub use Rattle.std.specs.Prelude.{IfOk, OnSome, is_some}
pub use Rattle.std.specs.declared.cmp.Ordering.{Ordering}
pub use Rattle.std.specs.declared.cmp.Ordering.TheVariants.{Less, Equal, Greater}
pub use Rattle.sk_changes.specs.declared.change.Change.{Change}
pub use Rattle.sk_changes.specs.declared.change.Undo.{Undo}
pub use Rattle.sk_ids.specs.EntityLemma.{entity_exact, entity_total}
pub use Rattle.sk_ids.specs.Entity.{entity_cmp, object_cmp}
pub use Rattle.sk_ids.specs.Name.{name_order}
pub use Rattle.sk_ids.specs.declared.entity.Entity.{Entity}
pub use Rattle.sk_ids.specs.declared.entity.Entity.TheVariants.{Proc, Obj, Link, Exit, Sig, Copy}
pub use Rattle.sk_ids.specs.declared.pid.ObjId.{ObjId}
pub use Rattle.sk_map.specs.Seen.{seen}
pub use Rattle.sk_record.specs.Effects.{is_in}
pub use Rattle.sk_store.specs.Back.{changed_back, CanChangeBack}
pub use Rattle.sk_store.specs.Changed.{changed, state_undone, StateFits}
pub use Rattle.sk_store.specs.Names.{names_in, name_there, name_of, IsCount}
pub use Rattle.sk_store.specs.OthersLaw.{put_others}
pub use Rattle.sk_store.specs.Processes.{CanBecome, became}
pub use Rattle.sk_store.specs.Same.{same_state}
pub use Rattle.sk_store.specs.SameLemma.{exact_state}
pub use Rattle.sk_store.specs.Start.{with_processes, with_objects, with_copies, with_links}
pub use Rattle.sk_store.specs.State.{State}
pub use Rattle.sk_store.specs.declared.entity_state.EntityState.{EntityState}
