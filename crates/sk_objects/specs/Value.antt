-- What an entity holds, and what its readers see of it.
use Rattle.std.specs.Prelude.{ℕ, ◌≤◌, Bool, false, Option, Some, None, List, [], length, min, slice_get, All}
use Rattle.std.specs.Option.{option_map}
use Rattle.sk_ids.specs.declared.pid.ObjId.{ObjId}
use Rattle.sk_ids.specs.declared.text.TheConstants.{TEXT_LIMIT}
use Rattle.sk_objects.specs.File.{part}
use Rattle.sk_objects.specs.Content.{ContentView}
use Rattle.sk_objects.specs.Signals.{IsSignal}
use Rattle.sk_objects.specs.declared.file.TheConstants.{FILE_LIMIT}
use Rattle.sk_objects.specs.declared.pipe.TheConstants.{PIPE_LIMIT}
use Rattle.sk_objects.specs.declared.signals.TheConstants.{SIGNALS_LIMIT}
use Rattle.sk_objects.specs.declared.content.TheConstants.{LAST_VERSION}
use Rattle.sk_objects.specs.declared.value.TheConstants.{LAST_STATUS}
use Rattle.sk_objects.specs.declared.value.Kind.{Kind}
use Rattle.sk_objects.specs.declared.value.Kind.TheVariants as kinds
use Rattle.sk_objects.specs.declared.value.Value.{Value}
use Rattle.sk_objects.specs.declared.value.Value.TheVariants.{File, Dir, Link, Pipe, Signals, Exit, Copy}

-- the kind of a value
abbrev pub kind_of : Value → Kind
kind_of (File f) = kinds.File
kind_of Dir = kinds.Dir
kind_of (Link o) = kinds.Link
kind_of (Pipe p) = kinds.Pipe
kind_of (Signals s) = kinds.Signals
kind_of (Exit e) = kinds.Exit
kind_of (Copy c) = kinds.Copy

-- the first value of a kind: nothing in it, open, not set, version 0 (a link has none: its case is never met)
abbrev pub empty_of : Kind → Value
empty_of kinds.File = File []
empty_of kinds.Dir = Dir
empty_of kinds.Link = Link (record { maker = None; count = 0 })
empty_of kinds.Pipe = Pipe (record { bytes = []; shut = false })
empty_of kinds.Signals = Signals []
empty_of kinds.Exit = Exit None
empty_of kinds.Copy = Copy (record { version = 0; bytes = [] })

-- the bytes of a file, a pipe (the oldest first) or a copy
abbrev pub held_bytes : Value → Option (List ℕ)
held_bytes (File f) = Some f
held_bytes (Pipe p) = Some p.bytes
held_bytes (Copy c) = Some c.bytes
held_bytes _ = None

-- up to so many bytes of a value from a place on, and at most 512
abbrev pub bytes_from : Value → ℕ → ℕ → Option (List ℕ)
bytes_from v offset count = option_map (λ held. part held offset (min count TEXT_LIMIT)) (held_bytes v)

-- their number
abbrev pub size_of : Value → Option ℕ
size_of v = option_map length (held_bytes v)

-- whether a pipe is shut
abbrev pub shut_of : Value → Option Bool
shut_of (Pipe p) = Some p.shut
shut_of _ = None

-- the object that a name is linked to
abbrev pub target_of : Value → Option ObjId
target_of (Link o) = Some o
target_of _ = None

-- the signal at a place of a queue, the oldest first
abbrev pub queued_at : Value → ℕ → Option ℕ
queued_at (Signals s) i = slice_get s i
queued_at _ i = None

-- the status of an exit slot, where it is set
abbrev pub status_of : Value → Option (Option ℕ)
status_of (Exit e) = Some e
status_of _ = None

-- the version of a copy
abbrev pub version_of : Value → Option ℕ
version_of (Copy c) = Some c.version
version_of _ = None

-- ---- what holds of every value

-- a status that is set is none above the last
abbrev pub IsStatus : Option ℕ → Type 0
IsStatus None = Unit {0}
IsStatus (Some status) = status ≤ LAST_STATUS

-- a version within its range, and a text's bytes
abbrev pub IsContent : ContentView → Type 0
IsContent c = (c.version ≤ LAST_VERSION) × (length c.bytes ≤ TEXT_LIMIT)

abbrev pub IsValue : Value → Type 0
IsValue (File f) = length f ≤ FILE_LIMIT
IsValue Dir = Unit {0}
IsValue (Link o) = Unit {0}
IsValue (Pipe p) = length p.bytes ≤ PIPE_LIMIT
IsValue (Signals s) = (length s ≤ SIGNALS_LIMIT) × All IsSignal s
IsValue (Exit e) = IsStatus e
IsValue (Copy c) = IsContent c
