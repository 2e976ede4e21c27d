-- What the proofs of this crate cite from outside of them, passed on from one place. Declares nothing.
pub use Rattle.std.proofs.Common.{ap, Some, add-one, ◌++◌, length, Bool, ℕ, inr, true, ltb, Ok, drop, ◌∷◌, sym, None}
pub use Rattle.std.proofs.Common.{◌&&◌, Err, inl, suc, zero, ◌≤◌, ◌≡◌, rules, take, ◌-◌, ◌+◌, ◌*◌, ◌^◌, false, Option, ◌<◌, arith}
pub use Rattle.std.proofs.Common.{get_or, refl, subst, Result, List, [], ◌∙◌, not}
pub use Rattle.std.proofs.lemmas.Bool.{le-leb, lt-ltb, ltb-false, ltb-true}
pub use Rattle.std.proofs.lemmas.List.{append_assoc, length-append, append-nil}
pub use Rattle.std.proofs.lemmas.Result.{err_from_is_err_and}
pub use Rattle.std.specs.List.{list_all, AllByRecursion}
pub use Rattle.std.specs.Prelude.{bytes_eq, ◌⊎◌, MatchOption, if◌then◌else◌, codes, ◌==◌}
pub use Rattle.std.proofs.lemmas.Str.{digit_value_digit}
pub use Rattle.std.proofs.lemmas.Str.Parse.{tells_all_ascii_digits}
pub use Rattle.std.specs.Char.{digit_value}
pub use Rattle.std.specs.Str.{all_ascii_digits}
pub use Rattle.std.specs.Str.Lines.{lines}
pub use Rattle.std.specs.Str.Parse.{digits_value, digits_value_after}
pub use Rattle.sk_scenario.specs.Calls.{step_line}
pub use Rattle.sk_scenario.specs.Declarations.{declaration_rules, TellsNext, declares, line_said, new_script}
pub use Rattle.sk_scenario.specs.Declarations.{line_rules, Declared, heading_rule, declared_next}
pub use Rattle.sk_scenario.specs.Scenario.{section_from, is_end, with_section, IsEdge, begins_script, World}
pub use Rattle.sk_scenario.specs.Scenario.{begins_script_of, script_unended, IsScriptEdge, scenario_from, TellsUpTo}
pub use Rattle.sk_scenario.specs.Scenario.{IsEdgeOf, ComesBefore, Trace, goes_on, AreLeft, SectionView, scenario_of}
pub use Rattle.sk_scenario.specs.Scenario.{more, Begun, with_script, script_ends, Steps, ended}
pub use Rattle.sk_scenario.specs.WorldEvents.{world_line}
pub use Rattle.sk_scenario.specs.Glances.{EndsLine}
pub use Rattle.sk_scenario.specs.declared.declarations.Heading.{Heading}
pub use Rattle.sk_scenario.specs.declared.declarations.Said.{Said}
pub use Rattle.sk_script.proofs.Told.{script_is_behind}
pub use Rattle.sk_script.specs.Scripting.{TellsScript, script_from, ComesFirst}
pub use Rattle.sk_script.specs.declared.instruction.Input.{Input}
pub use Rattle.sk_script.specs.declared.instruction.Instruction.{Instruction}
pub use Rattle.sk_words.specs.Items.{BeginsWith}
pub use Rattle.sk_trace.specs.Lines.{event_line, trace_from}
pub use Rattle.sk_words.proofs.FirstFault.{fault_at, fault_is_behind}
pub use Rattle.sk_words.proofs.LinesAgain.{line_cut}
pub use Rattle.sk_words.proofs.Numbers.{few}
pub use Rattle.sk_words.proofs.Unknown.{skipped, no_text}
pub use Rattle.sk_words.proofs.WordsAgain.{bare_word, words_again, words_closed, spaced_line}
pub use Rattle.sk_words.specs.Faults.{◌>>=◌}
pub use Rattle.sk_words.specs.Lines.{last_line}
pub use Rattle.sk_words.specs.Operands.{none_of, one_of, pid, positive}
pub use Rattle.sk_words.specs.Printed.{IsWord}
pub use Rattle.sk_words.specs.Reading.{Tells, at, read_from, TellsKind}
pub use Rattle.sk_words.specs.Spelling.{spaced}
pub use Rattle.sk_words.specs.Tables.{unknown, rule_in, Rule, with_line}
pub use Rattle.sk_words.specs.Words.{first_of, words}
pub use Rattle.sk_words.specs.declared.fault.Fault.{Fault}
pub use Rattle.sk_words.specs.declared.fault.FaultKind.{FaultKind}
