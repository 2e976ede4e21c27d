-- When two scripts are the same, and two maps of scripts.
use Rattle.std.specs.Prelude.{Bool, List, nat_eq}
use Rattle.sk_script.specs.Base.{pointwise, same_map, Instruction}
use Rattle.sk_script.specs.Scripts.{ScriptMap}
use Rattle.sk_script.specs.contracts.instruction.InstructionPartialEq.TheImpl as instruction

abbrev pub same_script : List Instruction → List Instruction → Bool
same_script = pointwise (instruction.ghosts).eq

-- whether two maps have the same names with the same scripts
abbrev pub same_scripts : ScriptMap → ScriptMap → Bool
same_scripts = same_map (pointwise nat_eq) same_script
