-- What forms the words behind the first word of an instruction have to have.
use Rattle.std.specs.Prelude.{ℕ, List, [], ◌∷◌, Option, Some, None, codes, bytes_eq, if◌then◌else◌}
use Rattle.sk_script.specs.Base.{Form, Register, Number, Label, Literal, Name, Index}

-- the forms behind first words
abbrev pub Table : Type 0
Table = List (List ℕ × List Form)

-- the forms of a word in a table, or others where the table doesn't have it
abbrev pub forms_in : Table → Option (List Form) → List ℕ → Option (List Form)
forms_in [] others word = others
forms_in (r ∷ rs) others word = if bytes_eq r.0 word then Some r.1 else forms_in rs others word

-- ---- the tables of first words, as those of their rules are

abbrev pub value_forms : Table
value_forms =
    (codes "set", Register ∷ Number ∷ []) ∷
    (codes "move", Register ∷ Register ∷ []) ∷
    (codes "add", Register ∷ Register ∷ []) ∷
    (codes "text", Literal ∷ []) ∷
    (codes "len", Register ∷ []) ∷
    (codes "self", Register ∷ []) ∷
    (codes "boot", Register ∷ Index ∷ []) ∷
    []

abbrev pub place_forms : Table
place_forms =
    (codes "jump", Label ∷ []) ∷
    (codes "zero", Register ∷ Label ∷ []) ∷
    (codes "neg", Register ∷ Label ∷ []) ∷
    (codes "handler", Label ∷ []) ∷
    (codes "return", []) ∷
    []

abbrev pub object_forms : Table
object_forms =
    (codes "mkfile", Register ∷ []) ∷
    (codes "mkdir", Register ∷ []) ∷
    (codes "mkpipe", Register ∷ []) ∷
    (codes "look", Register ∷ Register ∷ Name ∷ []) ∷
    (codes "link", Register ∷ Name ∷ Register ∷ []) ∷
    (codes "unlink", Register ∷ Name ∷ []) ∷
    []

abbrev pub byte_forms : Table
byte_forms =
    (codes "size", Register ∷ []) ∷
    (codes "write", Register ∷ Register ∷ []) ∷
    (codes "read", Register ∷ Register ∷ []) ∷
    (codes "cut", Register ∷ Register ∷ []) ∷
    (codes "put", Register ∷ []) ∷
    (codes "take", Register ∷ Register ∷ []) ∷
    (codes "shut", Register ∷ []) ∷
    []

abbrev pub outer_forms : Table
outer_forms =
    (codes "fork", Register ∷ Label ∷ []) ∷
    (codes "wait", Register ∷ Register ∷ []) ∷
    (codes "kill", Register ∷ Register ∷ []) ∷
    (codes "exit", Register ∷ []) ∷
    (codes "say", []) ∷
    (codes "fetch", Name ∷ []) ∷
    (codes "store", Name ∷ []) ∷
    []

abbrev pub outer_of : List ℕ → Option (List Form)
outer_of word = forms_in outer_forms None word

abbrev pub byte_of : List ℕ → Option (List Form)
byte_of word = forms_in byte_forms (outer_of word) word

abbrev pub object_of : List ℕ → Option (List Form)
object_of word = forms_in object_forms (byte_of word) word

abbrev pub place_of : List ℕ → Option (List Form)
place_of word = forms_in place_forms (object_of word) word

-- an instruction
abbrev pub instruction_forms : List ℕ → Option (List Form)
instruction_forms word = forms_in value_forms (place_of word) word
