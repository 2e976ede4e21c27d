-- What is written beside a process, with it: when it can be, and what a keeper has then.
use Rattle.std.specs.Prelude.{◌≡◌, ◌+◌, ◌<◌, ◌^◌, ℕ, List, Option, Some, Result, OnOk, OnErr, IfOk}
use Rattle.std.specs.declared.alloc.AllocError.{AllocError}
use Rattle.sk_plain.specs.Base.{Entity, Proc, Process, moved, IsProcess, process_in, EntityState, TerminalMap, said_to}
use Rattle.sk_plain.specs.Base.{Row, Beside, Writes}
use Rattle.sk_store.specs.Processes.{CanBecome as CanBecomeThere}
use Rattle.sk_plain.specs.Plan.{Nowhere, Birth}
use Rattle.sk_plain.specs.Planned.{CanBecome, CanDo, IsBeside, value_of, writes_of, wrote_all}
use Rattle.sk_plain.specs.Processes.{forked_by}
use Rattle.sk_plain.specs.Seen.{CanChange, IsWritable, beside_of, row_seen, written}
use Rattle.sk_plain.specs.declared.becomes.Forking.{Forking}

-- a parent with one more child
abbrev pub forked : Forking → Process → Process
forked f p = forked_by p f.register f.child

abbrev pub CanFork : Forking → Process → Type 0
CanFork f p = (p.place + 1 < 2 ^ 32) × (p.children + 1 < 2 ^ 16)

-- a state has become this; without memory it is as it was
pub record HasBecome {A S : Type 0} (result : Result A AllocError) (old new after : S) : Type 0 where
  pub ok : OnOk result (new ≡ after)
  pub err : OnErr result (new ≡ old)

-- a state has become this by one write, which can be taken back; without memory it is as it was
pub record HasWritten {B S : Type 0} (can_take_back : S → B → Type 0) (taken_back : S → B → S) (result : Result B AllocError) (old new after : S) : Type 0 where
  pub ok : OnOk result (new ≡ after)
  pub can : IfOk result (can_take_back new)
  pub back : IfOk result (λ back. taken_back new back ≡ old)
  pub err : OnErr result (new ≡ old)

-- a state has become what an act makes of it; without memory it is as it was
abbrev pub HasDone : {A S : Type 0} → Result A AllocError → S → S → (S → S) → Type 0
HasDone result old new act = HasBecome result old new (act old)

-- a process is there that can become something, and this can be written with it
pub record CanWrite (look : Entity → Option EntityState) (pid : ℕ) (may : Process → Type 0) (beside : Beside) : Type 0 where
  pub process : CanBecomeThere may (look (Proc pid))
  pub can : CanDo look (beside_of (process_in (look (Proc pid))) beside)
  pub apart : IsBeside pid (beside_of (process_in (look (Proc pid))) beside)
  pub version : IsWritable beside

-- a process is there, and an entity can become this beside it
pub record CanWriteOne (look : Entity → Option EntityState) (pid : ℕ) (e : Entity) (writes : Writes) : Type 0 where
  pub there : IsProcess (look (Proc pid))
  pub can : CanBecome (look e) (written (process_in (look (Proc pid))) writes)
  pub version : IsWritable (Beside.One e writes)

-- a process is there that can go on to its next instruction
pub record CanMove (look : Entity → Option EntityState) (pid : ℕ) : Type 0 where
  pub there : IsProcess (look (Proc pid))
  pub place : (process_in (look (Proc pid))).place + 1 < 2 ^ 32

-- a row can be performed
abbrev pub CanAct : (Entity → Option EntityState) → ℕ → Row → Type 0
CanAct look pid row = CanWrite look pid (λ p. CanChange p row.change) row.beside

module _ {S : Type 0} (wrote : S → Entity → Option EntityState → S) (look : S → Entity → Option EntityState) (pid : ℕ) where
  -- a state after this was written
  abbrev pub wrote_one : Entity → Writes → S → S
  wrote_one e writes s = wrote s e (Some (value_of (look s e) (written (process_in (look s (Proc pid))) writes)))

  -- after this was written, and the process with it
  abbrev pub wrote_both : (Process → Process) → Beside → S → S
  wrote_both after beside s = let p = process_in (look s (Proc pid)) in wrote_all wrote (writes_of (look s) pid (record { process = after p; looks = Nowhere; beside = beside_of p beside })) s

  -- after a child was born, and its parent with it
  abbrev pub wrote_birth : Forking → ℕ → S → S
  wrote_birth by place s =
      let p = process_in (look s (Proc pid)) in
      wrote_all wrote (writes_of (look s) pid (record { process = forked by p; looks = Nowhere; beside = Birth (record { pid = by.child; place = place; registers = p.registers }) })) s

  -- after a row
  abbrev pub acted : Row → S → S
  acted row s = wrote_all wrote (writes_of (look s) pid (row_seen (look s) (process_in (look s (Proc pid))) row)) s

  -- a process has gone on, and its buffer was said to its terminal with these tags; without memory nothing has changed
  pub record HasSpoken {A : Type 0} (tags : List ℕ) (result : Result A AllocError) (old new : S) (texts texts_now : TerminalMap) : Type 0 where
    pub writes : HasBecome result old new (wrote old (Proc pid) (Some (EntityState.Process (moved (process_in (look old (Proc pid)))))))
    pub says : HasBecome result texts texts_now (let p = process_in (look old (Proc pid)) in said_to texts p.terminal (p.buffer, tags))
