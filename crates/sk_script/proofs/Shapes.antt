-- What the rule of each instruction reads behind its word is what the table of forms says: told, row by row, of
-- whatever holds of the rules that read none, one, two and three operands. For the crates above.
use Rattle.sk_script.proofs.Names.{◌≡◌, ℕ, List, [], ◌∷◌, Bool, true, false, Result, Ok, Err, bytes_eq, refl}
use Rattle.sk_script.proofs.Names.{if◌then◌else◌, FaultKind, ◌>>=◌, Rule, Form, Table, Instruction, Labels, place_of}
use Rattle.sk_script.proofs.Names.{at_label, register, integer, index, name, label, literal, none_of, one_of, two_of}
use Rattle.sk_script.proofs.Names.{three_of, value_rules, place_rules, object_rules, byte_rules, outer_rules}
use Rattle.sk_script.proofs.Names.{value_forms, place_forms, object_forms, byte_forms, outer_forms}
use Rattle.sk_words.specs.declared.fault.FaultKind.TheVariants as kinds
use Rattle.sk_script.specs.declared.form.Form.TheVariants as forms
use Rattle.sk_script.specs.declared.instruction.Instruction.TheVariants as does
use Rattle.sk_script.proofs.Readings.{IsReading, reads_register, reads_number, reads_label, reads_literal, reads_name}
use Rattle.sk_script.proofs.Readings.{reads_index}

-- behind the operands nothing is at fault but a label that is not declared
abbrev pub OnlyLabel : {A : Type 0} → Result A FaultKind → Type 0
OnlyLabel (Ok a) = Unit {0}
OnlyLabel (Err e) = e ≡ kinds.Label

only_place : (labels : Labels) (n : List ℕ) → OnlyLabel (place_of labels n)
only_place [] n = refl
only_place (l ∷ ls) n =
    elim (bytes_eq l.0 n) as (λ (t : Bool). OnlyLabel (if t then Ok l.1 else place_of ls n)) [
      | true ↦ tt
      | false ↦ only_place ls n
    ]

only_so : {A B : Type 0} (r : Result A FaultKind) (f : A → B) → OnlyLabel r → OnlyLabel (r >>= λ a. Ok (f a))
only_so (Ok a) f h = tt
only_so (Err e) f h = h

only_label : (labels : Labels) (does_at : ℕ → Instruction) (n : List ℕ) → OnlyLabel (at_label labels does_at n)
only_label labels does_at n = only_so (place_of labels n) does_at (only_place labels n)

-- two tables have the same words in the same order, each with forms and a rule of which this holds
abbrev pub AllRows : {A : Type 0} → (List Form → Rule A → Type 0) → List (List ℕ × Rule A) → Table → Type 0
AllRows X [] [] = Unit {0}
AllRows X [] (t ∷ ts) = ⊥
AllRows X (r ∷ rs) [] = ⊥
AllRows X (r ∷ rs) (t ∷ ts) = (r.0 ≡ t.0) × X t.1 r.1 × AllRows X rs ts

module _ (X : List Form → Rule Instruction → Type 0)
    (none : (g : Unit {0} → Result Instruction FaultKind) → ((x : Unit {0}) → OnlyLabel (g x))
    → X [] (λ ws. none_of ws >>= g))
    (one : (A : Type 0) (f : Form) (a : List ℕ → Result A FaultKind) → IsReading f a
    → (g : A → Result Instruction FaultKind) → ((x : A) → OnlyLabel (g x)) → X (f ∷ []) (λ ws. one_of a ws >>= g))
    (two : (A B : Type 0) (f g : Form) (a : List ℕ → Result A FaultKind) (b : List ℕ → Result B FaultKind)
    → IsReading f a → IsReading g b → (h : A × B → Result Instruction FaultKind) → ((x : A × B) → OnlyLabel (h x))
    → X (f ∷ g ∷ []) (λ ws. two_of a b ws >>= h))
    (three : (A B C : Type 0) (f g h : Form) (a : List ℕ → Result A FaultKind) (b : List ℕ → Result B FaultKind)
    (c : List ℕ → Result C FaultKind) → IsReading f a → IsReading g b → IsReading h c
    → (i : A × B × C → Result Instruction FaultKind) → ((x : A × B × C) → OnlyLabel (i x))
    → X (f ∷ g ∷ h ∷ []) (λ ws. three_of a b c ws >>= i)) where
  -- ---- the shapes that rows have

  alone : (i : Instruction) → X [] (λ ws. none_of ws >>= λ x. Ok i)
  alone i = none (λ x. Ok i) (λ x. tt)

  of_register : (i : ℕ → Instruction) → X (forms.Register ∷ []) (λ ws. one_of register ws >>= λ x. Ok (i x))
  of_register i = one _ forms.Register register reads_register (λ x. Ok (i x)) (λ x. tt)

  of_name : (i : List ℕ → Instruction) → X (forms.Name ∷ []) (λ ws. one_of name ws >>= λ x. Ok (i x))
  of_name i = one _ forms.Name name reads_name (λ x. Ok (i x)) (λ x. tt)

  of_label : (labels : Labels) (i : ℕ → Instruction)
      → X (forms.Label ∷ []) (λ ws. one_of label ws >>= at_label labels i)
  of_label labels i = one _ forms.Label label reads_label (at_label labels i) (only_label labels i)

  of_registers : (i : ℕ → ℕ → Instruction)
      → X (forms.Register ∷ forms.Register ∷ []) (λ ws. two_of register register ws >>= λ x. Ok (i x.0 x.1))
  of_registers i = two _ _ forms.Register forms.Register register register reads_register reads_register
      (λ x. Ok (i x.0 x.1)) (λ x. tt)

  register_label : (labels : Labels) (i : ℕ → ℕ → Instruction)
      → X (forms.Register ∷ forms.Label ∷ []) (λ ws. two_of register label ws >>= λ x. at_label labels (i x.0) x.1)
  register_label labels i = two _ _ forms.Register forms.Label register label reads_register reads_label
      (λ x. at_label labels (i x.0) x.1) (λ x. only_label labels (i x.0) x.1)

  register_name : (i : ℕ → List ℕ → Instruction)
      → X (forms.Register ∷ forms.Name ∷ []) (λ ws. two_of register name ws >>= λ x. Ok (i x.0 x.1))
  register_name i = two _ _ forms.Register forms.Name register name reads_register reads_name
      (λ x. Ok (i x.0 x.1)) (λ x. tt)

  look : X (forms.Register ∷ forms.Register ∷ forms.Name ∷ [])
      (λ ws. three_of register register name ws >>= λ x. Ok (does.Look x.0 x.1 x.2))
  look = three _ _ _ forms.Register forms.Register forms.Name register register name
      reads_register reads_register reads_name (λ x. Ok (does.Look x.0 x.1 x.2)) (λ x. tt)

  link : X (forms.Register ∷ forms.Name ∷ forms.Register ∷ [])
      (λ ws. three_of register name register ws >>= λ x. Ok (does.Link x.0 x.1 x.2))
  link = three _ _ _ forms.Register forms.Name forms.Register register name register
      reads_register reads_name reads_register (λ x. Ok (does.Link x.0 x.1 x.2)) (λ x. tt)

  set : X (forms.Register ∷ forms.Number ∷ []) (λ ws. two_of register integer ws >>= λ x. Ok (does.Set x.0 x.1))
  set = two _ _ forms.Register forms.Number register integer reads_register reads_number
      (λ x. Ok (does.Set x.0 x.1)) (λ x. tt)

  boot : X (forms.Register ∷ forms.Index ∷ []) (λ ws. two_of register index ws >>= λ x. Ok (does.BootPid x.0 x.1))
  boot = two _ _ forms.Register forms.Index register index reads_register reads_index
      (λ x. Ok (does.BootPid x.0 x.1)) (λ x. tt)

  -- ---- the tables

  pub outer_rows : (labels : Labels) → AllRows X (outer_rules labels) outer_forms
  outer_rows labels = (
    refl,
    register_label labels does.Fork,
    (
      refl,
      of_registers does.Wait,
      (
        refl,
        of_registers does.Kill,
        (
          refl,
          of_register does.Exit,
          (
            refl,
            alone does.Say,
            (
              refl,
              of_name does.Fetch,
              (
                refl,
                of_name does.Store,
                tt,
              ),
            ),
          ),
        ),
      ),
    ),
  )

  pub byte_rows : AllRows X byte_rules byte_forms
  byte_rows = (
    refl,
    of_register does.Size,
    (
      refl,
      of_registers does.Write,
      (
        refl,
        of_registers does.Read,
        (
          refl,
          of_registers does.Cut,
          (
            refl,
            of_register does.Put,
            (
              refl,
              of_registers does.Take,
              (
                refl,
                of_register does.Shut,
                tt,
              ),
            ),
          ),
        ),
      ),
    ),
  )

  pub object_rows : AllRows X object_rules object_forms
  object_rows = (
    refl,
    of_register does.MakeFile,
    (
      refl,
      of_register does.MakeDir,
      (
        refl,
        of_register does.MakePipe,
        (
          refl,
          look,
          (
            refl,
            link,
            (
              refl,
              register_name does.Unlink,
              tt,
            ),
          ),
        ),
      ),
    ),
  )

  pub place_rows : (labels : Labels) → AllRows X (place_rules labels) place_forms
  place_rows labels = (
    refl,
    of_label labels does.Jump,
    (
      refl,
      register_label labels does.Zero,
      (
        refl,
        register_label labels does.Negative,
        (
          refl,
          of_label labels does.Handler,
          (
            refl,
            alone does.Return,
            tt,
          ),
        ),
      ),
    ),
  )

  pub value_rows : AllRows X value_rules value_forms
  value_rows = (
    refl,
    set,
    (
      refl,
      of_registers does.Move,
      (
        refl,
        of_registers does.Add,
        (
          refl,
          one _ forms.Literal literal reads_literal (λ x. Ok (does.Text x)) (λ x. tt),
          (
            refl,
            of_register does.Len,
            (
              refl,
              of_register does.SelfPid,
              (
                refl,
                boot,
                tt,
              ),
            ),
          ),
        ),
      ),
    ),
  )
