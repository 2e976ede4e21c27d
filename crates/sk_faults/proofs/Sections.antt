-- What is found in a line of a section without inputs, or in a declaration, is what its reading tells.
use Rattle.sk_faults.proofs.Names.{ℕ, List, [], ◌∷◌, Bool, true, false, Some, None, Option, Result, Ok, Err}
use Rattle.sk_faults.proofs.Names.{if◌then◌else◌, refl, nat_lt, length, FaultKind, ◌>>=◌, literal, pid}
use Rattle.sk_faults.proofs.Names.{name, natural, index, short, one_of, two_of, three_of, unknown, first_of}
use Rattle.sk_faults.proofs.Names.{BOOT_OBJECTS, has_script, has_object, has_copy, has_process, with_object, with_copy}
use Rattle.sk_faults.proofs.Names.{with_process, ObjectKind, File, Dir, Pipe, Declared, object, content_of, copy}
use Rattle.sk_faults.proofs.Names.{has_remote, with_remote, remote, process, once, declaration_rules, new_name}
use Rattle.sk_faults.proofs.Names.{new_script, line_rules, declared_next, line_said, world_rules, Form, Found, forms_in}
use Rattle.sk_faults.proofs.Names.{world_forms, heading_forms, other_forms, operand_fault, found_behind}
use Rattle.sk_faults.proofs.Names.{Agrees, IsToldIn}
use Rattle.sk_words.specs.declared.fault.FaultKind.TheVariants as kinds
use Rattle.sk_scenario.specs.KeptEvent.events
use Rattle.sk_scenario.specs.declared.declarations.Heading.TheVariants as headings
use Rattle.sk_scenario.specs.declared.declarations.Said.TheVariants as says
use Rattle.sk_scenario.specs.Declarations.{declares, says_next}
use Rattle.sk_scenario.specs.WorldEvents.{world_event}
use Rattle.sk_script.specs.declared.form.Form.TheVariants as forms
use Rattle.sk_faults.specs.declared.part.Part.TheVariants as parts
use Rattle.sk_script.proofs.Readings.{reads_literal, reads_name, reads_index, reads_natural, reads_short, reads_process}
use Rattle.sk_faults.proofs.Agree.{OnlyOther, then_agrees, none_so, one_so, one_agrees, two_agrees, three_agrees, three_so, in_table}

-- ---- a world

pub world_agrees : (word : List ℕ) (ws : List (List ℕ)) → Agrees ws (world_event word ws) (found_behind parts.World word ws)
unfolding world_event
world_agrees word ws =
    in_table world_rules world_forms unknown None word ws (
      refl,
      one_so forms.Process pid reads_process events.Turn ws,
      (
        refl,
        none_so events.Serve ws,
        (
          refl,
          none_so events.Reply ws,
          (
            refl,
            three_so forms.Name forms.Natural forms.Literal name natural literal reads_name reads_natural reads_literal (λ x. events.Edit x.0 x.1 x.2) ws,
            tt,
          ),
        ),
      ),
    ) refl

-- ---- declarations: what is declared already is no fault of words

taken : {A : Type 0} (t : Bool) (x : A) → OnlyOther (if t then Err kinds.Label else Ok x)
taken true x = tt
taken false x = tt

only_object : (d : Declared) (kind : ObjectKind) (x : List ℕ × List ℕ) → OnlyOther (object d kind x)
only_object d kind x =
    elim (has_object d.boot x.0) as (λ (t : Bool). OnlyOther {A = Declared} (if t then Err kinds.Label else if nat_lt (length d.boot.objects) BOOT_OBJECTS then Ok (record d { boot = with_object d.boot x.0 kind x.1 }) else Err kinds.TooLong)) [
      | true ↦ tt
      | false ↦ elim (nat_lt (length d.boot.objects) BOOT_OBJECTS) as (λ (t : Bool). OnlyOther {A = Declared} (if t then Ok (record d { boot = with_object d.boot x.0 kind x.1 }) else Err kinds.TooLong)) [
        | true ↦ tt
        | false ↦ tt
      ]
    ]

only_copy : (d : Declared) (x : List ℕ × ℕ × List ℕ) → OnlyOther (copy d x)
only_copy d x = taken (has_copy d.boot x.0) (record d { boot = with_copy d.boot x.0 (content_of x.1 x.2) })

only_remote : (d : Declared) (x : List ℕ × ℕ × List ℕ) → OnlyOther (remote d x)
only_remote d x = taken (has_remote d x.0) (with_remote d x.0 (content_of x.1 x.2))

only_process : (d : Declared) (x : ℕ × List ℕ × ℕ) → OnlyOther (process d x)
only_process d x =
    elim (has_process d.boot x.0) as (λ (t : Bool). OnlyOther {A = Declared} (if t then Err kinds.Label else if has_script d.boot x.1 then Ok (record d { boot = with_process d.boot x.0 x.1 x.2 }) else Err kinds.Label)) [
      | true ↦ tt
      | false ↦ elim (has_script d.boot x.1) as (λ (t : Bool). OnlyOther {A = Declared} (if t then Ok (record d { boot = with_process d.boot x.0 x.1 x.2 }) else Err kinds.Label)) [
        | true ↦ tt
        | false ↦ tt
      ]
    ]

only_once : (before : Option ℕ) (new : Declared) → OnlyOther (once before new)
only_once None new = tt
only_once (Some n) new = tt

only_script : (d : Declared) (n : List ℕ) → OnlyOther (new_name d n)
only_script d n = taken (has_script d.boot n) n

abbrev one_form : Form → Option (List Form)
one_form f = Some (f ∷ [])

-- what is declared goes on behind it
so : {A B : Type 0} (ws : List (List ℕ)) (r : Result A FaultKind) (found : Option Found) (f : A → B) → Agrees ws r found → Agrees ws (r >>= λ a. Ok (f a)) found
so ws r found f h = then_agrees ws r found (λ a. Ok (f a)) h (λ a. tt)

pub others_agree : (d : Declared) (word : List ℕ) (ws : List (List ℕ)) → Agrees ws (declares d word ws) (operand_fault None (forms_in other_forms None word) ws)
unfolding declares
others_agree d word ws =
    in_table (declaration_rules d) other_forms unknown None word ws (
      refl,
      then_agrees ws (two_of name literal ws) (operand_fault None (Some (forms.Name ∷ forms.Literal ∷ [])) ws) (object d File) (two_agrees forms.Name forms.Literal name literal reads_name reads_literal ws) (only_object d File),
      (
        refl,
        then_agrees ws (two_of name literal ws) (operand_fault None (Some (forms.Name ∷ forms.Literal ∷ [])) ws) (object d Pipe) (two_agrees forms.Name forms.Literal name literal reads_name reads_literal ws) (only_object d Pipe),
        (
          refl,
          then_agrees ws (one_of name ws) (operand_fault None (one_form forms.Name) ws) (λ n. object d Dir (n, [])) (one_agrees forms.Name name reads_name ws) (λ n. only_object d Dir (n, [])),
          (
            refl,
            then_agrees ws (three_of name natural literal ws) (operand_fault None (Some (forms.Name ∷ forms.Natural ∷ forms.Literal ∷ [])) ws) (copy d) (three_agrees forms.Name forms.Natural forms.Literal name natural literal reads_name reads_natural reads_literal ws) (only_copy d),
            (
              refl,
              then_agrees ws (three_of name natural literal ws) (operand_fault None (Some (forms.Name ∷ forms.Natural ∷ forms.Literal ∷ [])) ws) (remote d) (three_agrees forms.Name forms.Natural forms.Literal name natural literal reads_name reads_natural reads_literal ws) (only_remote d),
              (
                refl,
                then_agrees ws (three_of index name index ws) (operand_fault None (Some (forms.Index ∷ forms.Name ∷ forms.Index ∷ [])) ws) (process d) (three_agrees forms.Index forms.Name forms.Index index name index reads_index reads_name reads_index ws) (only_process d),
                (
                  refl,
                  then_agrees ws (one_of short ws) (operand_fault None (one_form forms.Short) ws) (λ n. once d.limit (record d { limit = Some n })) (one_agrees forms.Short short reads_short ws) (λ n. only_once d.limit (record d { limit = Some n })),
                  (
                    refl,
                    then_agrees ws (one_of natural ws) (operand_fault None (one_form forms.Natural) ws) (λ n. once d.number (record d { number = Some n })) (one_agrees forms.Natural natural reads_natural ws) (λ n. only_once d.number (record d { number = Some n })),
                    tt,
                  ),
                ),
              ),
            ),
          ),
        ),
      ),
    ) refl

script_begins : (d : Declared) (ws : List (List ℕ)) → Agrees ws (new_script d ws) (operand_fault None (one_form forms.Name) ws)
script_begins d ws = then_agrees ws (one_of name ws) (operand_fault None (one_form forms.Name) ws) (new_name d) (one_agrees forms.Name name reads_name ws) (only_script d)

declared_agrees : (d : Declared) (word : List ℕ) (ws : List (List ℕ)) → Agrees ws (says_next d word ws) (operand_fault None (forms_in heading_forms (forms_in other_forms None word) word) ws)
unfolding says_next
declared_agrees d word ws =
    in_table (line_rules d) heading_forms (declared_next d word) (forms_in other_forms None word) word ws (
      refl,
      so ws (new_script d ws) (operand_fault None (one_form forms.Name) ws) (λ n. (says.Script n, d)) (script_begins d ws),
      (
        refl,
        none_so (says.Heading headings.Steps, d) ws,
        (
          refl,
          none_so (says.Heading headings.World, d) ws,
          (
            refl,
            none_so (says.Heading headings.Trace, d) ws,
            tt,
          ),
        ),
      ),
    ) (so ws (declares d word ws) (operand_fault None (forms_in other_forms None word) ws) (λ e. (says.Declared, e)) (others_agree d word ws))

pub declaration_told : (d : Declared) (ws : List (List ℕ)) → IsToldIn parts.Declarations ws (line_said d (first_of ws))
declaration_told d [] = tt
declaration_told d (w ∷ ws) = declared_agrees d w ws
