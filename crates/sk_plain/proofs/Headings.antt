-- What a process heads for is what its next instruction tells without a plan.
use Rattle.sk_plain.proofs.Cites.{◌≡◌, ℕ, Bool, true, false, Option, Some, Ok, refl, cond, Entity}
use Rattle.sk_plain.proofs.Cites.{EntityState, Process, Instruction, Scripts}
use Rattle.sk_script.specs.declared.instruction.Instruction.TheVariants as does_
use Rattle.sk_plain.specs.Next.{heading, is_private, next_instruction, unplanned, waits}
use Rattle.sk_plain.specs.declared.next.Next.TheVariants as nexts

otherwise : (alone blocked : Bool) → unplanned (Ok (cond alone nexts.Private (cond blocked nexts.Waits nexts.Other))) ≡ Ok nexts.Other
otherwise true blocked = refl
otherwise false true = refl
otherwise false false = refl

pub unplanned_is : (look : Entity → Option EntityState) (scripts : Scripts) (pid : ℕ) (p : Process) (i : Option Instruction)
    → unplanned (Ok (next_instruction look scripts pid p i)) ≡ Ok (heading i)
unplanned_is look scripts pid p (Some (does_.Fetch name)) = refl
unplanned_is look scripts pid p (Some (does_.Store name)) = refl
unplanned_is look scripts pid p i = otherwise (is_private p i) (waits look scripts pid)
