-- A process among what entities have.
use Rattle.std.specs.Prelude.{◌<◌, ◌+◌, ◌^◌, Option, Some, [], unwrap_or}
use Rattle.sk_store.specs.Base.{Entity, Obj, Copy, beginning, private_step, Process, Instruction, EntityState}

abbrev pub IsProcess : Option EntityState → Type 0
IsProcess (Some (EntityState.Process p)) = Unit {0}
IsProcess _ = ⊥

-- the process that is there
abbrev pub process_in : Option EntityState → Process
process_in (Some (EntityState.Process p)) = p
process_in _ = beginning 0 [] 0

-- a process is there that can become something
abbrev pub CanBecome : (Process → Type 0) → Option EntityState → Type 0
CanBecome can now = IsProcess now × can (process_in now)

-- what is there when the process has become that
abbrev pub became : (Process → Process) → Option EntityState → EntityState
became after now = EntityState.Process (after (process_in now))

-- an object or a cached copy, of which a process can read
abbrev pub IsReadable : Entity → Type 0
IsReadable (Obj o) = Unit {0}
IsReadable (Copy name) = Unit {0}
IsReadable _ = ⊥

-- the process after a private instruction
abbrev pub done : Instruction → Process → Process
done i p = unwrap_or (private_step p i) p

abbrev pub CanDo : Instruction → Process → Type 0
CanDo i p = p.place + 1 < 2 ^ 32
