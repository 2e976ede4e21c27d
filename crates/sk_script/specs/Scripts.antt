-- Scripts by name.
use Rattle.std.specs.Prelude.{ℕ, List, [], unwrap_or}
use Rattle.sk_script.specs.Base.{Coded, coded_ℕ, coded_list, name_order, Instruction}
use Rattle.std.specs.FinMap as map
use Rattle.sk_script.specs.contracts.instruction.Instruction as instruction

-- the instructions of each script
abbrev pub ScriptMap : Type 0
ScriptMap = map.FinMap name_order (List Instruction)

abbrev pub script_map_code : Coded ScriptMap
script_map_code = map.code (coded_list coded_ℕ) (coded_list instruction.the_row.coded)

-- the instructions under a name: none where no script has it
abbrev pub script_at : ScriptMap → List ℕ → List Instruction
script_at m name = unwrap_or (map.get m name) []
