-- What the declarations of a scenario say.
use Rattle.std.specs.Prelude.{◌≡◌, ℕ, Bool, List, [], ◌∷◌, ◌++◌, Option, Some, None, Result, Ok, Err, refl, codes, length, nat_lt, bytes_eq, if◌then◌else◌}
use Rattle.sk_scenario.specs.Base.{list_any, Coded, code_by, coded×, coded_ℕ, coded_option, coded_list, ContentView}
use Rattle.sk_scenario.specs.Base.{Instruction, BootView, boot_code, BOOT_OBJECTS, has_script, has_object, has_copy}
use Rattle.sk_scenario.specs.Base.{has_process, with_script, with_object, with_copy, with_process, BootFault}
use Rattle.sk_scenario.specs.Base.{ObjectKind, File, Dir, Pipe, FaultKind, ◌>>=◌, literal, name, natural, index, short}
use Rattle.sk_scenario.specs.Base.{none_of, one_of, two_of, three_of, Rule, rule_in, unknown, Heading, Remote, Said}
use Rattle.std.specs.FinMap as map
use Rattle.sk_scenario.specs.contracts.declarations.Remote as remote_row

-- what is declared so far: the start, the files of the server in the order of declaration, the trace limit and the
-- kernel's number
pub record Declared : Type 0 where
  pub boot : BootView
  pub remotes : List Remote
  pub limit : Option ℕ
  pub number : Option ℕ

abbrev pub declared_code : Coded Declared
declared_code =
    code_by (BootView × (List Remote × (Option ℕ × Option ℕ)))
    (coded× boot_code (coded× (coded_list remote_row.the_row.coded) (coded× (coded_option coded_ℕ) (coded_option coded_ℕ))))
    (λ d. (d.boot, (d.remotes, (d.limit, d.number))))
    (λ p. record { boot = p.0; remotes = p.1.0; limit = p.1.1.0; number = p.1.1.1 }) (λ _. refl)

-- what is declared before the first line: nothing
abbrev pub nothing_declared : Declared
nothing_declared =
    record { boot = record { scripts = map.empty; objects = []; copies = []; processes = [] }; remotes = []; limit = None; number = None }

-- a name or number that is taken or missing is a fault of the kind Label
abbrev pub boot_fault : BootFault → FaultKind
boot_fault BootFault.Memory = FaultKind.Memory
boot_fault _ = FaultKind.Label

-- ---- the declarations, after each operand is read

abbrev pub object : Declared → ObjectKind → List ℕ × List ℕ → Result Declared FaultKind
object d kind x =
    if has_object d.boot x.0 then Err FaultKind.Label
    else if nat_lt (length d.boot.objects) BOOT_OBJECTS then Ok (record d { boot = with_object d.boot x.0 kind x.1 })
    else Err FaultKind.TooLong

abbrev pub content_of : ℕ → List ℕ → ContentView
content_of version bytes = record { version = version; bytes = bytes }

abbrev pub copy : Declared → List ℕ × ℕ × List ℕ → Result Declared FaultKind
copy d x = if has_copy d.boot x.0 then Err FaultKind.Label else Ok (record d { boot = with_copy d.boot x.0 (content_of x.1 x.2) })

abbrev pub has_remote : Declared → List ℕ → Bool
has_remote d name = list_any (λ r. bytes_eq r.name name) d.remotes

abbrev pub with_remote : Declared → List ℕ → ContentView → Declared
with_remote d name content = record d { remotes = d.remotes ++ record { name = name; content = content } ∷ [] }

-- a file of the server
abbrev pub remote : Declared → List ℕ × ℕ × List ℕ → Result Declared FaultKind
remote d x = if has_remote d x.0 then Err FaultKind.Label else Ok (with_remote d x.0 (content_of x.1 x.2))

abbrev pub process : Declared → ℕ × List ℕ × ℕ → Result Declared FaultKind
process d x =
    if has_process d.boot x.0 then Err FaultKind.Label
    else if has_script d.boot x.1 then Ok (record d { boot = with_process d.boot x.0 x.1 x.2 })
    else Err FaultKind.Label

-- what may be declared at most once was not declared before
abbrev pub once : Option ℕ → Declared → Result Declared FaultKind
once None new = Ok new
once (Some before) new = Err FaultKind.Label

abbrev pub declaration_rules : Declared → List (List ℕ × Rule Declared)
declaration_rules d =
    (codes "file", λ ws. two_of name literal ws >>= object d File) ∷
    (codes "pipe", λ ws. two_of name literal ws >>= object d Pipe) ∷
    (codes "dir", λ ws. one_of name ws >>= λ n. object d Dir (n, [])) ∷
    (codes "copy", λ ws. three_of name natural literal ws >>= copy d) ∷
    (codes "remote", λ ws. three_of name natural literal ws >>= remote d) ∷
    (codes "process", λ ws. three_of index name index ws >>= process d) ∷
    (codes "limit", λ ws. one_of short ws >>= λ n. once d.limit (record d { limit = Some n })) ∷
    (codes "number", λ ws. one_of natural ws >>= λ n. once d.number (record d { number = Some n })) ∷
    []

-- what is declared behind a line whose first word this is
unfoldable pub declares : Declared → List ℕ → Rule Declared
declares d word ws = rule_in (declaration_rules d) unknown word ws

-- ---- the lines that go on below them: a script's, whose name must be new, and the headings of sections

abbrev pub new_name : Declared → List ℕ → Result (List ℕ) FaultKind
new_name d n = if has_script d.boot n then Err FaultKind.Label else Ok n

-- what is declared with one script more
abbrev pub script : Declared → List ℕ → List Instruction → Result Declared FaultKind
script d name instructions =
    if has_script d.boot name then Err FaultKind.Label
    else Ok (record d { boot = with_script d.boot name instructions })

-- the name of a script that begins
abbrev pub new_script : Declared → Rule (List ℕ)
new_script d ws = one_of name ws >>= new_name d

abbrev pub heading_rule : Declared → Heading → Rule (Said × Declared)
heading_rule d heading ws = none_of ws >>= λ x. Ok (Said.Heading heading, d)

abbrev pub line_rules : Declared → List (List ℕ × Rule (Said × Declared))
line_rules d =
    (codes "script", λ ws. new_script d ws >>= λ n. Ok (Said.Script n, d)) ∷
    (codes "steps", heading_rule d Heading.Steps) ∷
    (codes "world", heading_rule d Heading.World) ∷
    (codes "trace", heading_rule d Heading.Trace) ∷
    []

-- a declaration
abbrev pub declared_next : Declared → List ℕ → Rule (Said × Declared)
declared_next d word ws = declares d word ws >>= λ e. Ok (Said.Declared, e)

-- what a line says whose first word this is, and what is declared behind it
unfoldable pub says_next : Declared → List ℕ → Rule (Said × Declared)
says_next d word ws = rule_in (line_rules d) (declared_next d word) word ws

-- what a line says, and what is declared behind it; a line that is ignored declares nothing
abbrev pub line_said : Declared → Option (List ℕ × List (List ℕ)) → Result (Said × Declared) FaultKind
line_said d None = Ok (Said.Declared, d)
line_said d (Some x) = says_next d x.0 x.1

-- The kind that is told of a line of which this is said: that of its fault, or want of memory where it declares
-- something. A heading takes no memory.
abbrev pub TellsNext : FaultKind → Result (Said × Declared) FaultKind → Type 0
TellsNext e (Ok x) = (e ≡ FaultKind.Memory) × (x.0 ≡ Said.Declared)
TellsNext e (Err k) = e ≡ k

-- a function answers what is said, and leaves what is declared then, or a kind is told and nothing has changed
abbrev pub SaysNext : Result Said FaultKind → Result (Said × Declared) FaultKind → Declared → Declared → Type 0
SaysNext (Ok s) said old new = said ≡ Ok (s, new)
SaysNext (Err e) said old new = TellsNext e said × (new ≡ old)
