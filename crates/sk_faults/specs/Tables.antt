-- What forms the words behind a first word have to have.
use Rattle.std.specs.Prelude.{ℕ, Bool, true, false, List, [], ◌∷◌, Option, Some, None, is_some, codes, bytes_eq, if◌then◌else◌}
use Rattle.sk_faults.specs.Base.{label_in, Table, forms_in, instruction_forms, Part, Form, Literal, Name, Index}
use Rattle.sk_faults.specs.Base.{Natural, Short, Guess, Process, Input}

-- ---- scripts

-- a line of a script: its end or a label, behind which nothing stands, or an instruction
abbrev pub script_forms : List ℕ → Option (List Form)
script_forms word =
    if bytes_eq word (codes "end") then Some []
    else if is_some (label_in word) then Some []
    else instruction_forms word

-- ---- declarations

-- scripts and sections, which go on below their lines
abbrev pub heading_forms : Table
heading_forms =
    (codes "script", Name ∷ []) ∷
    (codes "steps", []) ∷
    (codes "world", []) ∷
    (codes "trace", []) ∷
    []

abbrev pub other_forms : Table
other_forms =
    (codes "file", Name ∷ Literal ∷ []) ∷
    (codes "pipe", Name ∷ Literal ∷ []) ∷
    (codes "dir", Name ∷ []) ∷
    (codes "copy", Name ∷ Natural ∷ Literal ∷ []) ∷
    (codes "remote", Name ∷ Natural ∷ Literal ∷ []) ∷
    (codes "process", Index ∷ Name ∷ Index ∷ []) ∷
    (codes "limit", Short ∷ []) ∷
    (codes "number", Natural ∷ []) ∷
    []

abbrev pub declaration_forms : List ℕ → Option (List Form)
declaration_forms word = forms_in heading_forms (forms_in other_forms None word) word

-- ---- sections

-- an input, and whether its first word brings a content
abbrev pub input_forms : Bool → List Form
input_forms true = Input ∷ Natural ∷ Literal ∷ []
input_forms false = Input ∷ []

abbrev pub step_forms : Bool → Table
step_forms wide =
    (codes "step", Process ∷ input_forms wide) ∷
    (codes "guess", Process ∷ input_forms wide) ∷
    (codes "commit", Guess ∷ []) ∷
    (codes "fail", Guess ∷ []) ∷
    []

abbrev pub world_forms : Table
world_forms =
    (codes "turn", Process ∷ []) ∷
    (codes "serve", []) ∷
    (codes "reply", []) ∷
    (codes "edit", Name ∷ Natural ∷ Literal ∷ []) ∷
    []

abbrev pub event_forms : Bool → Table
event_forms wide =
    (codes "step", Process ∷ input_forms wide) ∷
    (codes "guess", Guess ∷ Process ∷ input_forms wide) ∷
    (codes "commit", Guess ∷ []) ∷
    (codes "fail", Guess ∷ []) ∷
    []

-- ---- lines

-- the forms behind a first word in a part, whose input brings a content or not; none where the word is unknown
abbrev pub forms_of : Part → Bool → List ℕ → Option (List Form)
forms_of Part.Declarations wide word = declaration_forms word
forms_of Part.Script wide word = script_forms word
forms_of Part.Steps wide word = forms_in (step_forms wide) None word
forms_of Part.World wide word = forms_in world_forms None word
forms_of Part.Trace wide word = forms_in (event_forms wide) None word
