-- What is found in a line of a script is what its reading tells: a label, or an instruction.
use Rattle.sk_faults.proofs.Names.{◌≡◌, ℕ, List, [], ◌∷◌, ◌++◌, Bool, true, false, ◌==◌, Some, None, Option, Result, Ok}
use Rattle.sk_faults.proofs.Names.{Err, length, if◌then◌else◌, none_of, FaultKind, ◌>>=◌, INSTRUCTIONS}
use Rattle.sk_faults.proofs.Names.{Instruction, place_of, instruction, ScriptState, label_in, declares_or_does, line_of}
use Rattle.sk_faults.proofs.Names.{undeclared, room_for, Form, is_end_of, instruction_forms, is_some, operand_fault}
use Rattle.sk_faults.proofs.Names.{Agrees, IsToldIn}
use Rattle.sk_words.specs.declared.fault.FaultKind.TheVariants as kinds
use Rattle.sk_script.specs.Scripting as code
use Rattle.sk_script.specs.Scripting.{added}
use Rattle.sk_faults.specs.declared.part.Part.TheVariants as parts
use Rattle.sk_faults.proofs.Agree.{OnlyOther, then_agrees, none_agrees}
use Rattle.sk_faults.proofs.Scripts.{instruction_agrees}

only_new : (r : Result ℕ FaultKind) → OnlyOther (undeclared r)
only_new (Ok place) = tt
only_new (Err e) = tt

only_room : (is : List Instruction) → OnlyOther (room_for is)
only_room is =
    elim (length is == INSTRUCTIONS) as (λ (t : Bool). OnlyOther {A = Unit {0}} (if t then Err kinds.TooLong else Ok tt)) [
      | true ↦ tt
      | false ↦ tt
    ]

only_so : {A B : Type 0} (r : Result A FaultKind) (f : A → B) → OnlyOther r → OnlyOther (r >>= λ a. Ok (f a))
only_so (Ok a) f h = tt
only_so (Err e) f h = h

-- the forms of a first word that isn't `end`
abbrev seen_forms : Option (List ℕ) → List ℕ → Option (List Form)
seen_forms label word = if is_some label then Some [] else instruction_forms word

labelled : (s : ScriptState) (label : Option (List ℕ)) (w : List ℕ) (ws : List (List ℕ)) → Agrees ws (added s (declares_or_does label w ws)) (operand_fault None (seen_forms label w) ws)
unfolding added
labelled s (Some name) w ws =
    then_agrees ws (none_of ws) (operand_fault None (Some []) ws) (λ alone. undeclared (place_of s.declared name) >>= λ new. Ok (record s { declared = s.declared ++ (name, length s.instructions) ∷ [] }))
    (none_agrees ws) (λ alone. only_so (undeclared (place_of s.declared name)) (λ new. record s { declared = s.declared ++ (name, length s.instructions) ∷ [] }) (only_new (place_of s.declared name)))
labelled s None w ws =
    then_agrees ws (instruction s.all w ws) (operand_fault None (instruction_forms w) ws) (λ i. room_for s.instructions >>= λ room. Ok (record s { instructions = s.instructions ++ i ∷ [] }))
    (instruction_agrees s.all w ws) (λ i. only_so (room_for s.instructions) (λ room. record s { instructions = s.instructions ++ i ∷ [] }) (only_room s.instructions))

pub script_told : (s : ScriptState) (ws : List (List ℕ)) → is_end_of ws ≡ false → IsToldIn parts.Script ws (added s (line_of ws))
unfolding added
script_told s [] e = tt
script_told s (w ∷ ws) e = rw e (labelled s (label_in w) w ws)
