-- What holds of every state that a kernel comes to, from the start of a boot with numbered processes on.
use Rattle.std.specs.Prelude.{◌≡◌, ℕ, ◌/◌, ◌%◌, ◌<◌, ◌≤◌, All, List, Option, Some, None, IsSome}
use Rattle.sk_plain.specs.Base.{get, Entity, Proc, Process, BootView, State, EntityState, Value}
use Rattle.sk_script.specs.declared.boot.BootProcess.{BootProcess}

-- the parent of a forked process is there, and has made so many children
abbrev pub IsCounted : State → ℕ → Type 0
IsCounted s c = (p : Process) × (get s (Proc (c / 65536)) ≡ Some (EntityState.Process p)) × (c % 65536 ≤ p.children)

-- a process has a number from 1 on, and above 16 bits it is one that was forked
pub record IsPlaced (s : State) (c : ℕ) : Type 0 where
  pub some : 0 < c
  pub counted : 65536 ≤ c → IsCounted s c

-- what is cached is a copy
abbrev pub IsCopy : Option EntityState → Type 0
IsCopy None = Unit {0}
IsCopy (Some (EntityState.Value (Value.Copy c))) = Unit {0}
IsCopy _ = ⊥

-- each process has its place, and each cached copy is one: so it is from a boot on, after each step
pub record IsTidyState (s : State) : Type 0 where
  pub placed : (c : ℕ) → IsSome (get s (Proc c)) → IsPlaced s c
  pub copies : (name : List ℕ) → IsCopy (get s (Entity.Copy name))

-- a process of a boot has a number of 16 bits, from 1 on
abbrev pub HasNumber : BootProcess → Type 0
HasNumber p = (0 < p.number) × (p.number < 65536)

-- each process of a boot has a number of 16 bits, from 1 on
abbrev pub IsNumbered : BootView → Type 0
IsNumbered boot = All HasNumber boot.processes
