-- What the proofs of this crate cite from outside of them, passed on from one place. Declares nothing.
pub use Rattle.std.proofs.Common.{Some, Bool, subst, Ok, ◌∷◌, Err, ◌≡◌}
pub use Rattle.std.proofs.Common.{◌+◌, Option, List, bytes_eq, ◌++◌, length, ◌||◌, ℕ, true, drop, None}
pub use Rattle.std.proofs.Common.{if◌then◌else◌, false, refl, codes, Result, [], ◌∙◌, nat_lt, ◌==◌, sym}
pub use Rattle.std.proofs.lemmas.Slice.Eq.{bytes_eq-Decides}
pub use Rattle.std.specs.Prelude.{IfSome, MatchOption, is_some}
pub use Rattle.std.specs.List.{list_any}
pub use Rattle.std.specs.Str.Lines.{lines}
pub use Rattle.sk_script.specs.Forms.{brings_content, is_said, fits}
pub use Rattle.sk_faults.specs.Found.{IsToldIn, wrong_at, is_wide, count_at, second, next_index, fault_at, IsOther}
pub use Rattle.sk_faults.specs.Found.{or_else, open_at, unknown_input, kind_of, operand_fault, input_word}
pub use Rattle.sk_faults.specs.Found.{Agrees, third, found_behind}
pub use Rattle.sk_faults.specs.Parts.{line_at}
pub use Rattle.sk_faults.specs.Tables.{input_forms, world_forms, heading_forms, other_forms}
pub use Rattle.sk_script.specs.declared.form.Form.{Form}
pub use Rattle.sk_faults.specs.declared.found.Found.{Found}
pub use Rattle.sk_faults.specs.declared.part.Part.{Part}
pub use Rattle.sk_faults.specs.declared.part.Part.TheVariants.{Declarations}
pub use Rattle.sk_objects.specs.Content.{ContentView}
pub use Rattle.sk_scenario.specs.Calls.{call, step_call, guess_call}
pub use Rattle.sk_scenario.specs.Declarations.{copy, line_said, with_remote, line_rules, content_of, has_remote}
pub use Rattle.sk_scenario.specs.Declarations.{declaration_rules, object, remote, new_name, new_script, Declared}
pub use Rattle.sk_scenario.specs.Declarations.{process, once, declared_next}
pub use Rattle.sk_scenario.specs.Scenario.{is_end_of}
pub use Rattle.sk_scenario.specs.WorldEvents.{world_rules, world_event}
pub use Rattle.sk_scenario.specs.declared.call.Call.{Call}
pub use Rattle.sk_script.specs.Boot.{with_copy, has_object, with_object, BOOT_OBJECTS, has_process, with_process}
pub use Rattle.sk_script.specs.Boot.{has_script, has_copy}
pub use Rattle.sk_script.specs.Instructions.{byte_rules, Labels, outer_rules, place_of, value_rules}
pub use Rattle.sk_script.specs.Instructions.{instruction, object_rules, place_rules}
pub use Rattle.sk_script.specs.Script.{INSTRUCTIONS}
pub use Rattle.sk_script.specs.Scripting.{declares_or_does, room_for, line_of, ScriptState, label_in, undeclared}
pub use Rattle.sk_script.specs.declared.boot.ObjectKind.{ObjectKind}
pub use Rattle.sk_script.specs.declared.boot.ObjectKind.TheVariants.{File, Pipe, Dir}
pub use Rattle.sk_script.specs.declared.instruction.Input.{Input}
pub use Rattle.sk_script.specs.declared.instruction.Instruction.{Instruction}
pub use Rattle.sk_script.specs.InstructionForms.{instruction_forms, Table, forms_in, value_forms, place_forms}
pub use Rattle.sk_script.specs.InstructionForms.{object_forms, byte_forms, outer_forms}
pub use Rattle.sk_trace.specs.Lines.{event, step}
pub use Rattle.sk_trace.specs.declared.event.Event.{Event}
pub use Rattle.sk_words.specs.Faults.{◌>>=◌}
pub use Rattle.sk_words.specs.Literals.{literal}
pub use Rattle.sk_words.specs.Operands.{index, pid, positive}
pub use Rattle.sk_words.specs.Operands.{next_word, closed, three_of, natural}
pub use Rattle.sk_words.specs.Operands.{short, none_of, two_of, name, no_more, one_of}
pub use Rattle.sk_words.specs.Tables.{with_said, unknown, Rule, rule_in, with_line}
pub use Rattle.sk_words.specs.Words.{first_of, words, is_open}
pub use Rattle.sk_words.specs.declared.fault.FaultKind.{FaultKind}
