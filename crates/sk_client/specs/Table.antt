-- The table of instructions as a desk looks at it.
use Rattle.std.specs.Prelude.{ℕ, List, [], Option, Some, None}
use Rattle.sk_client.specs.Base.{ContentView, Value, EntityState}
pub use Rattle.sk_plain.specs.TidyState.{HasNumber, IsNumbered}

-- names and bytes are lists of numbers
abbrev pub Bytes : Type 0
Bytes = List ℕ

-- a cached copy
abbrev pub copy_of : ContentView → EntityState
copy_of c = EntityState.Value (Value.Copy c)

-- the version of a cached copy; none of what is no copy
abbrev pub version_of : Option EntityState → Option ℕ
version_of (Some (EntityState.Value (Value.Copy c))) = Some c.version
version_of _ = None

-- a process's buffer
abbrev pub buffer_of : Option EntityState → Bytes
buffer_of (Some (EntityState.Process p)) = p.buffer
buffer_of _ = []
