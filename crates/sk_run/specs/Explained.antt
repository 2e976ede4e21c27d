-- What explains the answer to an event: its line in the file, and the place at which its process stood.
use Rattle.std.specs.Prelude.{◌≡◌, ℕ, Bool, List, ◌++◌, if◌then◌else◌, Option, Some, None}
use Rattle.std.specs.FinMap as map
use Rattle.sk_run.specs.Base.{Call, WorldEvent, EntityState, KernelView, Proc, Shows, SourceView, Stand, Beside}
use Rattle.sk_run.specs.Base.{explained, source_of, state_at}
use Rattle.sk_run.specs.InTurn.{Lists}

-- what is wanted beside the answers to the events of a file of these lines
abbrev pub beside_answers : Shows → List (List ℕ) → Beside
beside_answers shows ls = record { steps = shows.steps; source = if shows.explains then Some (source_of ls) else None }

-- the process of an event: of a step, a guess or a turn
abbrev pub process_of_call : Call → Option ℕ
process_of_call (Call.Step pid input) = Some pid
process_of_call (Call.Guess pid input) = Some pid
process_of_call call = None

abbrev pub process_of_event : WorldEvent → Option ℕ
process_of_event (WorldEvent.Turn pid) = Some pid
process_of_event event = None

-- where a process stands: at a place of its script
abbrev pub stand_in : Option EntityState → Option Stand
stand_in (Some (EntityState.Process p)) = Some (record { script = p.script; place = p.place })
stand_in there = None

abbrev pub stand_of : KernelView → Option ℕ → Option Stand
stand_of k None = None
stand_of k (Some pid) = stand_in (map.get (state_at k) (Proc pid))

module _ {S I : Type 0} where
  -- an item is taken as it is listed, and what explains it is told below, from where its process stood before it
  abbrev pub Explains : (S → KernelView) → (I → Option ℕ) → (ℕ → I → S → S → List ℕ → Type 0) → Bool → SourceView → ℕ → I → S → S → List ℕ → Type 0
  Explains kernel_of process_of Takes is_listed source number item s next text =
      (told : List ℕ) × Lists kernel_of Takes is_listed number item s next told
      × (text ≡ told ++ explained source number (stand_of (kernel_of s) (process_of item)))

  -- an item is explained where there is a file to tell of, else it is listed alone
  abbrev pub ShownBy : (S → KernelView) → (I → Option ℕ) → (ℕ → I → S → S → List ℕ → Type 0) → Bool → Option SourceView → ℕ → I → S → S → List ℕ → Type 0
  ShownBy kernel_of process_of Takes is_listed None = Lists kernel_of Takes is_listed
  ShownBy kernel_of process_of Takes is_listed (Some source) = Explains kernel_of process_of Takes is_listed source

  abbrev pub Shown : (S → KernelView) → (I → Option ℕ) → (ℕ → I → S → S → List ℕ → Type 0) → Beside → ℕ → I → S → S → List ℕ → Type 0
  Shown kernel_of process_of Takes beside = ShownBy kernel_of process_of Takes beside.steps beside.source
