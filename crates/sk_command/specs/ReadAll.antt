-- When an input is not read.
use Rattle.std.specs.Prelude.{◌≢◌, ◌<◌, ℕ, List, length, ⊤, Option, IfSome}
use Rattle.std.specs.declared.io.ErrorKind.{ErrorKind}
use Rattle.sk_command.specs.declared.read_all.ReadFault.{ReadFault}

-- the greatest length of an input, in bytes
abbrev pub INPUT_LIMIT : ℕ
INPUT_LIMIT = 67108864

-- an input with these bytes, where they are known, may be refused so
abbrev pub IsFaultOf : ReadFault → Option (List ℕ) → Type 0
IsFaultOf ReadFault.TooLong known = IfSome known (λ bytes. INPUT_LIMIT < length bytes)
IsFaultOf (ReadFault.Failed kind) known = kind ≢ ErrorKind.Interrupted
IsFaultOf _ known = ⊤
