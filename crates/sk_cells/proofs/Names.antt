-- What the proofs of this crate cite from outside of them, passed on from one place. Declares nothing.
pub use Rattle.std.proofs.Common.{Some, ap, ◌++◌}
pub use Rattle.std.proofs.Common.{refl, lit<, [], ◌∷◌, ◌≡◌, Option, List, ℕ, None}
pub use Rattle.std.proofs.Common.{◌∙◌}
pub use Rattle.std.proofs.alloc.Global.TheLaws.{the_within as global_within, lowers as global_lowers}
pub use Rattle.std.proofs.alloc.Global.TheLaws.{the_row_laws as global_laws}
pub use Rattle.std.proofs.impls.GlobalAllocator.TheImpl.Met.{passed}
pub use Rattle.std.proofs.raw_atomic.Walks.{proved, proved_at}
pub use Rattle.std.specs.contracts.impls.GlobalAllocator.TheImpl.{ghosts}
pub use Rattle.std_alloc.proofs.boxed.Box.from_raw.Met.{met}
pub use Rattle.std_heap.proofs.GlobalToken.{dealloc_token_start}
pub use Rattle.core.proofs.alloc.Shapes.{after}
pub use Rattle.core.proofs.atomic.Steps.{fm}
pub use Rattle.core.proofs.cell.Inside.{Good, one}
pub use Rattle.core.proofs.option.Made.{Some-of, none_of}
pub use Rattle.core.specs.Ptr.{points_to}
pub use Rattle.sk_cells.specs.Kept.{cell_at, heap, kept_at}
pub use base.Fml.{ftrue, flft}
pub use base.Fraction.{full_share}
pub use base.Logic.{ent, never, id⊢, via, snd∗, fst∗, guard_i}
pub use contract.BorrowLft.{◌⊑◌}
pub use contract.Monad.{fact, fact_use, fact_i}
pub use contract.Running.{tables}
pub use denote.Exit.{yes, no}
pub use denote.Laws.{Is, shows}
pub use denote.Memory.{lone}
pub use denote.Param.{param, layout, arg, bounded, layouts}
pub use denote.Param.Laws.{param_laws, arg_laws, Laws}
pub use denote.Param.NoDrop.{glues}
pub use denote.RattleType.{RattleType}
pub use denote.RawPtr.{ptr_val, block_ptr, RawPtr, Ptr, tests_null, rawptr_pure, in_a_block, null_ptr}
pub use denote.Signature.{plain}
pub use denote.Steps.{only, peeks, heard, nothing, owned}
pub use denote.Struct.Struct.{Shape, Struct-Makes, Struct}
pub use denote.Triple.Call.{calls_at, calls_at_last}
pub use denote.Triple.Clauses.{lasts, Lasts}
pub use denote.Triple.Spec.{triple_of}
pub use denote.Triple.Walked.{Stays, walk_of, ends_at, stay_dropped, says, Goes-dropped}
pub use lib.Dec.{T}
pub use mir.MapTy.{inst_fn}
pub use mir.Raw.{raw as bare}
pub use mir.Syntax.{Dict, tcons, ty_ptr, Ty, dcons, a_type, tnil, impl, dnil}
pub use mir.Val.{vcons, vstruct, has_ty, vnil, WT, Val}
pub use prog.Wp.{WpFn}
pub use seplogic.Ra.Ura.{Ura}
pub use types.ByLocal.{env, alloc_all, get, look_at, get_in, sets_last, free_all, lands_last, sets, pass_all, lands_as}
pub use types.Kit.{Step, use0, prop, Goal, join, ◌⊛◌, !, feq_i, use1, await, regoal, ◌∵◌, qed, suffices, some, at_ret}
pub use types.Kit.{later, split3, raw, given, ‵, pick, keep, ◌$◌, drop, done, feq_l, move, rewrite, fsplit, fjoin}
pub use types.Kit.{learn, Seq, Item, split}
pub use types.Logic.{Logic, sem}
pub use types.Match.{live}
pub use types.Part.{sub, whole, agg}
pub use types.Run.{blocks, exec, branches, enter, lit, bin, fld, no_more, returns, and_then, stop, first, of_opd}
pub use types.Tokens.{lft_new}
pub use base.Fml.{fsep, Fml}
pub use base.Logic.{emp}
pub use denote.Laws.{Tells}
pub use mir.Syntax.{Fn, Callee, ty_struct, local, value_local, seq, assign, place, field, copy, rv_opd, aggregate, return}
pub use prog.Wp.{Closed}
pub use prog.Model.{Model}
pub use contract.Running.{Running}
pub use denote.Triple.Clauses.{Ended, Clauses, closing}
pub use denote.Triple.Spec.{Meets}
pub use denote.Triple.Walked.{Goes}
pub use denote.Exit.{Last}
