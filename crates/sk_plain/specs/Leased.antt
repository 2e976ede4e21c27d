-- Processes that are lent, which do private instructions away from their kernel.
use Rattle.std.specs.Prelude.{◌≡◌, ℕ, false, List, [], ◌∷◌, Option, Some, Result, Ok, Err, if◌then◌else◌}
use Rattle.sk_plain.specs.Base.{Entity, Proc, Sig, script_at, EntityState, Refusal, NoProcess, Ended, Memory}
use Rattle.sk_script.specs.Lease.{LeaseView, leased}
use Rattle.sk_plain.specs.Act.{Scripts}
use Rattle.sk_plain.specs.Next.{is_due}

-- the process at its place is the one that was lent, its script is the lease's, and no signal is due
pub record IsAsLent (look : Entity → Option EntityState) (scripts : Scripts) (l : LeaseView) : Type 0 where
  pub process : look (Proc l.lent.pid) ≡ Some (EntityState.Process l.lent)
  pub script : script_at scripts l.lent.script ≡ l.script
  pub undisturbed : is_due l.lent (look (Sig l.lent.pid)) ≡ false

-- the lease of what stands at a process's place, with its script and no instruction done; or why there is none to lend
abbrev pub lent_at : Scripts → Option EntityState → Result LeaseView Refusal
lent_at scripts (Some (EntityState.Process p)) = if p.ended then Err Ended else Ok (leased p (script_at scripts p.script))
lent_at scripts _ = Err NoProcess

-- the lease of a process, by what each entity has, or why there is none
abbrev pub lease_of : (Entity → Option EntityState) → Scripts → ℕ → Result LeaseView Refusal
lease_of look scripts pid = lent_at scripts (look (Proc pid))

-- what is to be lent is lent, or the cause against it told; memory can be wanting only where there is none
abbrev pub Lends : Result LeaseView Refusal → Result LeaseView Refusal → Type 0
Lends (Ok l) (Ok m) = l ≡ m
Lends (Ok l) (Err why) = ⊥
Lends (Err why) (Ok m) = why ≡ Memory
Lends (Err why) (Err cause) = why ≡ cause

-- what a private instruction of a process reads
abbrev pub alone_reads : ℕ → List Entity
alone_reads pid = Proc pid ∷ Sig pid ∷ []
