-- The allocator of the C library, as what a generic function of a box takes of it.
--     Global     its type.     Z, LZ     the same as a call passes it, with its laws
--     dict, drops     its methods, and its glue, which does nothing
use Rattle.sk_cells.proofs.Names.{[], ◌∷◌, refl, Ty, Dict, impl, tcons, tnil, dnil, no, RattleType, layout, arg}
use Rattle.sk_cells.proofs.Names.{Laws, arg_laws}
use mir.Raw.{raw}
pub use Rattle.std.specs.contracts.impls.GlobalAllocator.TheImpl.{ghosts, dict}
use Rattle.std.specs.contracts.alloc.Global as heap
use Rattle.std.proofs.alloc.Global.TheLaws as laws

abbrev pub Global : RattleType
Global = heap.the_row

abbrev place : Ty
place = raw (layout Global)

abbrev pub Z : RattleType
Z = arg place no Global

abbrev pub LZ : Laws Z
LZ = arg_laws place no Global laws.the_row_laws refl

abbrev pub drops : Dict
drops = impl ("sk_cells::Destruct++none::drop" ∷ []) (tcons (layout Z) tnil) dnil
