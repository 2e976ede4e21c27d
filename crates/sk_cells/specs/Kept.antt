-- What a kept box and a cell own.
use Rattle.std.specs.Prelude.{Option, Some, None}
use Rattle.std.specs.Coded.{Coded, coded_option}
use Rattle.std.specs.contracts.impls.GlobalAllocator.TheImpl.{ghosts}
use Rattle.std.specs.declared.alloc.Global.{Global}
use Rattle.std_alloc.specs.Box.Ownership.{box_owns}
use base.Fml.{Fml, feq}
use denote.RattleType.{RattleType}
use denote.RawPtr.{Ptr, null_ptr}

-- a value at a place, and the right to free its block
abbrev pub heap : Global
heap = record { memory = record { seal = tt } }

abbrev pub kept_at : (R : RattleType) → Ptr → R.Denot → Fml
kept_at R p x = box_owns (ghosts.dealloc_token heap) R p x

-- what a cell owns: the box of what it holds; at null there is none
abbrev pub cell_at : (R : RattleType) → Ptr → Option R.Denot → Fml
cell_at R p None = feq Ptr p null_ptr
cell_at R p (Some x) = kept_at R p x

-- how the logic keeps what a cell holds
abbrev pub cell_code : (R : RattleType) → Coded (Option R.Denot)
cell_code R = coded_option R.coded
