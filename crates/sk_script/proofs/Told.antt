-- What is told of a script's lines is told of the script: from the reader of lines.
use Rattle.sk_script.proofs.Names.{◌≡◌, ◌≤◌, inl, inr, ℕ, List, Result, Ok, Err, refl, arith, Fault, read_from}
use Rattle.sk_script.proofs.Names.{fault_is_behind, ScriptState, TellsScript, instructions_in, opening, script_from}
use Rattle.sk_script.proofs.Names.{script_line}
use Rattle.sk_words.specs.declared.fault.FaultKind.TheVariants as kinds

err_of : (said : Result ScriptState Fault) (g : Fault) → instructions_in said ≡ Err g → said ≡ Err g
err_of (Ok s) g e = absurd cc
err_of (Err f) g e = cc

-- no fault of a script is before its first line
pub script_is_behind : (first : ℕ) (ls : List (List ℕ)) (g : Fault) → script_from first ls ≡ Err g → first ≤ g.line
script_is_behind first ls g e = fault_is_behind script_line (opening ls) first ls g (err_of (read_from script_line (opening ls) first ls) g e)

abbrev no_room : ℕ → Fault
no_room first = record { line = first; kind = kinds.Memory }

-- want of memory at the first line
pub at_first : (first last : ℕ) (ls : List (List ℕ)) → first ≤ last → TellsScript first last (record { line = first; kind = kinds.Memory }) (script_from first ls)
at_first first last ls within =
    elim (script_from first ls) as (λ r. TellsScript first last (no_room first) r) [
      | Ok s ↦ (refl, omega arith, within)
      | Err g ↦ inr (refl, inl refl)
    ]
