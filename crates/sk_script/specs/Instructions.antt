-- The instructions: the first word of a line, and what the words behind it say.
use Rattle.std.specs.Prelude.{ℕ, List, [], ◌∷◌, Result, Ok, Err, bytes_eq, codes, if◌then◌else◌}
use Rattle.sk_script.specs.Base.{FaultKind, Instruction, ◌>>=◌, integer, index, name, label, none_of, one_of, two_of}
use Rattle.sk_script.specs.Base.{three_of, literal, Rule, rule_in, unknown}
use Rattle.sk_script.specs.Registers.{register}

-- the labels of a script, each with its place
abbrev pub Labels : Type 0
Labels = List (List ℕ × ℕ)

-- the place of a label that is declared
abbrev pub place_of : Labels → List ℕ → Result ℕ FaultKind
place_of [] name = Err FaultKind.Label
place_of (l ∷ ls) name = if bytes_eq l.0 name then Ok l.1 else place_of ls name

-- an instruction that names the place of a label
abbrev pub at_label : Labels → (ℕ → Instruction) → List ℕ → Result Instruction FaultKind
at_label labels does_at name = place_of labels name >>= λ place. Ok (does_at place)

-- ---- the tables of first words

-- the registers and the buffer
abbrev pub value_rules : List (List ℕ × Rule Instruction)
value_rules =
    (codes "set", λ ws. two_of register integer ws >>= λ x. Ok (Instruction.Set x.0 x.1)) ∷
    (codes "move", λ ws. two_of register register ws >>= λ x. Ok (Instruction.Move x.0 x.1)) ∷
    (codes "add", λ ws. two_of register register ws >>= λ x. Ok (Instruction.Add x.0 x.1)) ∷
    (codes "text", λ ws. one_of literal ws >>= λ x. Ok (Instruction.Text x)) ∷
    (codes "len", λ ws. one_of register ws >>= λ x. Ok (Instruction.Len x)) ∷
    (codes "self", λ ws. one_of register ws >>= λ x. Ok (Instruction.SelfPid x)) ∷
    (codes "boot", λ ws. two_of register index ws >>= λ x. Ok (Instruction.BootPid x.0 x.1)) ∷
    []

-- the places
abbrev pub place_rules : Labels → List (List ℕ × Rule Instruction)
place_rules labels =
    (codes "jump", λ ws. one_of label ws >>= at_label labels Instruction.Jump) ∷
    (codes "zero", λ ws. two_of register label ws >>= λ x. at_label labels (Instruction.Zero x.0) x.1) ∷
    (codes "neg", λ ws. two_of register label ws >>= λ x. at_label labels (Instruction.Negative x.0) x.1) ∷
    (codes "handler", λ ws. one_of label ws >>= at_label labels Instruction.Handler) ∷
    (codes "return", λ ws. none_of ws >>= λ x. Ok Instruction.Return) ∷
    []

-- new objects, and the names of a directory
abbrev pub object_rules : List (List ℕ × Rule Instruction)
object_rules =
    (codes "mkfile", λ ws. one_of register ws >>= λ x. Ok (Instruction.MakeFile x)) ∷
    (codes "mkdir", λ ws. one_of register ws >>= λ x. Ok (Instruction.MakeDir x)) ∷
    (codes "mkpipe", λ ws. one_of register ws >>= λ x. Ok (Instruction.MakePipe x)) ∷
    (codes "look", λ ws. three_of register register name ws >>= λ x. Ok (Instruction.Look x.0 x.1 x.2)) ∷
    (codes "link", λ ws. three_of register name register ws >>= λ x. Ok (Instruction.Link x.0 x.1 x.2)) ∷
    (codes "unlink", λ ws. two_of register name ws >>= λ x. Ok (Instruction.Unlink x.0 x.1)) ∷
    []

-- the bytes of files and pipes
abbrev pub byte_rules : List (List ℕ × Rule Instruction)
byte_rules =
    (codes "size", λ ws. one_of register ws >>= λ x. Ok (Instruction.Size x)) ∷
    (codes "write", λ ws. two_of register register ws >>= λ x. Ok (Instruction.Write x.0 x.1)) ∷
    (codes "read", λ ws. two_of register register ws >>= λ x. Ok (Instruction.Read x.0 x.1)) ∷
    (codes "cut", λ ws. two_of register register ws >>= λ x. Ok (Instruction.Cut x.0 x.1)) ∷
    (codes "put", λ ws. one_of register ws >>= λ x. Ok (Instruction.Put x)) ∷
    (codes "take", λ ws. two_of register register ws >>= λ x. Ok (Instruction.Take x.0 x.1)) ∷
    (codes "shut", λ ws. one_of register ws >>= λ x. Ok (Instruction.Shut x)) ∷
    []

-- other processes, the terminal and the server
abbrev pub outer_rules : Labels → List (List ℕ × Rule Instruction)
outer_rules labels =
    (codes "fork", λ ws. two_of register label ws >>= λ x. at_label labels (Instruction.Fork x.0) x.1) ∷
    (codes "wait", λ ws. two_of register register ws >>= λ x. Ok (Instruction.Wait x.0 x.1)) ∷
    (codes "kill", λ ws. two_of register register ws >>= λ x. Ok (Instruction.Kill x.0 x.1)) ∷
    (codes "exit", λ ws. one_of register ws >>= λ x. Ok (Instruction.Exit x)) ∷
    (codes "say", λ ws. none_of ws >>= λ x. Ok Instruction.Say) ∷
    (codes "fetch", λ ws. one_of name ws >>= λ x. Ok (Instruction.Fetch x)) ∷
    (codes "store", λ ws. one_of name ws >>= λ x. Ok (Instruction.Store x)) ∷
    []

-- ---- what a line says whose first word this is: a word that one table doesn't have is looked for in the next

unfoldable pub outer_instruction : Labels → List ℕ → Rule Instruction
outer_instruction labels word ws = rule_in (outer_rules labels) unknown word ws

unfoldable pub byte_instruction : Labels → List ℕ → Rule Instruction
byte_instruction labels word ws = rule_in byte_rules (outer_instruction labels word) word ws

unfoldable pub object_instruction : Labels → List ℕ → Rule Instruction
object_instruction labels word ws = rule_in object_rules (byte_instruction labels word) word ws

unfoldable pub place_instruction : Labels → List ℕ → Rule Instruction
place_instruction labels word ws = rule_in (place_rules labels) (object_instruction labels word) word ws

unfoldable pub instruction : Labels → List ℕ → Rule Instruction
instruction labels word ws = rule_in value_rules (place_instruction labels word) word ws
