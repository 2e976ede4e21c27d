-- The names of other crates, and of the types of this one, that definitions and clauses cite. Declares nothing.
pub use Rattle.sk_objects.specs.Content.{ContentView}
pub use Rattle.sk_scenario.specs.declared.call.Call.{Call}
pub use Rattle.sk_scenario.specs.declared.declarations.Heading.{Heading}
pub use Rattle.sk_scenario.specs.declared.declarations.Remote.{Remote}
pub use Rattle.sk_scenario.specs.declared.declarations.Said.{Said}
pub use Rattle.sk_scenario.specs.declared.declarations.TheConstants.{KERNEL_NUMBER, TRACE_LIMIT}
pub use Rattle.sk_scenario.specs.declared.kept.EventWords.{EventWords}
pub use Rattle.sk_scenario.specs.declared.kept.EventWords.TheVariants.{Edit, Reply, Serve, Turn}
pub use Rattle.sk_script.specs.Boot.{BOOT_OBJECTS, BootView, boot_code, has_copy, has_object, has_process, has_script, with_copy, with_object, with_process, with_script}
pub use Rattle.sk_script.specs.Scripting.{script_from}
pub use Rattle.sk_script.specs.declared.boot.BootFault.{BootFault}
pub use Rattle.sk_script.specs.declared.boot.ObjectKind.{ObjectKind}
pub use Rattle.sk_script.specs.declared.boot.ObjectKind.TheVariants.{Dir, File, Pipe}
pub use Rattle.sk_script.specs.declared.instruction.Instruction.{Instruction}
pub use Rattle.sk_trace.specs.Lines.{step, trace_from}
pub use Rattle.sk_trace.specs.declared.event.Event.{Event}
pub use Rattle.sk_trace.specs.declared.world_event.WorldEvent.{WorldEvent}
pub use Rattle.sk_words.specs.Faults.{◌>>=◌}
pub use Rattle.sk_words.specs.Items.{with_item}
pub use Rattle.sk_words.specs.Lines.{last_line}
pub use Rattle.sk_words.specs.Literals.{literal}
pub use Rattle.sk_words.specs.Operands.{index, name, natural, none_of, one_of, pid, positive, short, three_of, two_of}
pub use Rattle.sk_words.specs.Printed.{IsWord}
pub use Rattle.sk_words.specs.Reading.{Leaves, Tells, at, read_from}
pub use Rattle.sk_words.specs.Spelling.{spaced}
pub use Rattle.sk_words.specs.Tables.{Rule, rule_in, unknown, with_said}
pub use Rattle.sk_words.specs.Words.{first_of, words}
pub use Rattle.sk_words.specs.declared.fault.Fault.{Fault}
pub use Rattle.sk_words.specs.declared.fault.FaultKind.{FaultKind}
pub use Rattle.std.specs.Coded.{Coded, code_by, coded_list, coded_option, coded_ℕ, coded×}
pub use Rattle.std.specs.List.{AllByRecursion, list_all, list_any}
pub use Rattle.std.specs.Str.Lines.{lines}
