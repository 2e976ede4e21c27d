-- The names of other crates, and of the types of this one, that definitions and clauses cite. Declares nothing.
pub use Rattle.sk_faults.specs.declared.found.Found.{Found}
pub use Rattle.sk_faults.specs.declared.found.InputWord.{InputWord}
pub use Rattle.sk_faults.specs.declared.found.Why.{Why}
pub use Rattle.sk_faults.specs.declared.part.Part.{Part}
pub use Rattle.sk_faults.specs.declared.part.Part.TheVariants.{Declarations, Script, Steps, Trace, World}
pub use Rattle.sk_questions.specs.Questions.{asked_by}
pub use Rattle.sk_scenario.specs.Calls.{step_line}
pub use Rattle.sk_scenario.specs.Declarations.{Declared, line_said}
pub use Rattle.sk_scenario.specs.KeptEvent.{WorldEvent}
pub use Rattle.sk_scenario.specs.Scenario.{is_end}
pub use Rattle.sk_scenario.specs.WorldEvents.{world_line}
pub use Rattle.sk_scenario.specs.declared.call.Call.{Call}
pub use Rattle.sk_script.specs.Forms.{brings_content, fits, is_input}
pub use Rattle.sk_script.specs.InstructionForms.{Table, forms_in, instruction_forms}
pub use Rattle.sk_script.specs.Scripting.{ScriptState, label_in, script_line}
pub use Rattle.sk_script.specs.StepInput.{no_input}
pub use Rattle.sk_script.specs.declared.form.Form.{Form}
pub use Rattle.sk_script.specs.declared.form.Form.TheVariants.{Guess, Index, Input, Literal, Name, Natural, Process, Short}
pub use Rattle.sk_trace.specs.Lines.{event_line}
pub use Rattle.sk_trace.specs.declared.event.Event.{Event}
pub use Rattle.sk_words.specs.Words.{first_of, is_open, words}
pub use Rattle.sk_words.specs.declared.fault.FaultKind.{FaultKind}
pub use Rattle.sk_words.specs.declared.fault.FaultKind.TheVariants.{Memory}
pub use Rattle.std.specs.Str.Lines.{lines}
