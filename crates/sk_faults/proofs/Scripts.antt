-- What is found in a line of a script is what its reading tells: each table's rules read what its forms say.
use Rattle.sk_faults.proofs.Names.{ℕ, List, [], ◌∷◌, Some, None, Result, Ok, Err, refl, sym, subst, none_of, FaultKind}
use Rattle.sk_faults.proofs.Names.{one_of, two_of, three_of, unknown, Instruction, Labels, value_rules, place_rules}
use Rattle.sk_faults.proofs.Names.{object_rules, byte_rules, outer_rules, value_forms, place_forms, object_forms, byte_forms}
use Rattle.sk_faults.proofs.Names.{outer_forms, Form, operand_fault, Agrees, IsOther, ◌>>=◌}
use Rattle.sk_script.specs.Instructions.{instruction, place_instruction, object_instruction, byte_instruction, outer_instruction}
use Rattle.sk_script.specs.InstructionForms as forms
use Rattle.sk_script.proofs.Readings.{IsReading}
use Rattle.sk_script.proofs.Shapes.{OnlyLabel, outer_rows, byte_rows, object_rows, place_rows, value_rows}
use Rattle.sk_faults.proofs.Agree.{OnlyOther, then_agrees, none_agrees, one_agrees, two_agrees, three_agrees, Told, in_table}

-- a label that isn't declared is no fault of words
only_other : {A : Type 0} (r : Result A FaultKind) → OnlyLabel r → OnlyOther r
only_other (Ok a) h = tt
only_other (Err e) h = subst IsOther (sym h) tt

module _ (labels : Labels) (word : List ℕ) (ws : List (List ℕ)) where
  behind : {A : Type 0} (r : Result A FaultKind) (fs : List Form) (g : A → Result Instruction FaultKind)
      → ((x : A) → OnlyLabel (g x)) → Agrees ws r (operand_fault None (Some fs) ws)
      → Agrees ws (r >>= g) (operand_fault None (Some fs) ws)
  behind r fs g only h = then_agrees ws r (operand_fault None (Some fs) ws) g h (λ x. only_other (g x) (only x))

  none : (g : Unit {0} → Result Instruction FaultKind) → ((x : Unit {0}) → OnlyLabel (g x)) → Told ws [] (λ ws. none_of ws >>= g)
  none g only = behind (none_of ws) [] g only (none_agrees ws)

  one : (A : Type 0) (f : Form) (a : List ℕ → Result A FaultKind) → IsReading f a
      → (g : A → Result Instruction FaultKind) → ((x : A) → OnlyLabel (g x)) → Told ws (f ∷ []) (λ ws. one_of a ws >>= g)
  one A f a reads g only = behind (one_of a ws) (f ∷ []) g only (one_agrees f a reads ws)

  two : (A B : Type 0) (f g : Form) (a : List ℕ → Result A FaultKind) (b : List ℕ → Result B FaultKind)
      → IsReading f a → IsReading g b → (h : A × B → Result Instruction FaultKind) → ((x : A × B) → OnlyLabel (h x))
      → Told ws (f ∷ g ∷ []) (λ ws. two_of a b ws >>= h)
  two A B f g a b first second h only = behind (two_of a b ws) (f ∷ g ∷ []) h only (two_agrees f g a b first second ws)

  three : (A B C : Type 0) (f g h : Form) (a : List ℕ → Result A FaultKind) (b : List ℕ → Result B FaultKind)
      (c : List ℕ → Result C FaultKind) → IsReading f a → IsReading g b → IsReading h c
      → (i : A × B × C → Result Instruction FaultKind) → ((x : A × B × C) → OnlyLabel (i x))
      → Told ws (f ∷ g ∷ h ∷ []) (λ ws. three_of a b c ws >>= i)
  three A B C f g h a b c first second third i only =
      behind (three_of a b c ws) (f ∷ g ∷ h ∷ []) i only (three_agrees f g h a b c first second third ws)

  outer_agrees : Agrees ws (outer_instruction labels word ws) (operand_fault None (forms.outer_of word) ws)
  unfolding outer_instruction
  outer_agrees = in_table (outer_rules labels) outer_forms unknown None word ws (outer_rows (Told ws) none one two three labels) refl

  byte_agrees : Agrees ws (byte_instruction labels word ws) (operand_fault None (forms.byte_of word) ws)
  unfolding byte_instruction
  byte_agrees = in_table byte_rules byte_forms (outer_instruction labels word) (forms.outer_of word) word ws
      (byte_rows (Told ws) none one two three) outer_agrees

  object_agrees : Agrees ws (object_instruction labels word ws) (operand_fault None (forms.object_of word) ws)
  unfolding object_instruction
  object_agrees = in_table object_rules object_forms (byte_instruction labels word) (forms.byte_of word) word ws
      (object_rows (Told ws) none one two three) byte_agrees

  place_agrees : Agrees ws (place_instruction labels word ws) (operand_fault None (forms.place_of word) ws)
  unfolding place_instruction
  place_agrees = in_table (place_rules labels) place_forms (object_instruction labels word) (forms.object_of word) word ws
      (place_rows (Told ws) none one two three labels) object_agrees

  pub instruction_agrees : Agrees ws (instruction labels word ws) (operand_fault None (forms.instruction_forms word) ws)
  unfolding instruction
  instruction_agrees = in_table value_rules value_forms (place_instruction labels word) (forms.place_of word) word ws
      (value_rows (Told ws) none one two three) place_agrees
