-- What the proofs of this crate cite from outside of them, passed on from one place. Declares nothing.
pub use Rattle.std.proofs.Common.{Some, Decides, Bool, subst, ◌≢◌, inr, Ok, ◌∷◌, Err, inl, zero, ◌≡◌, rules, ◌^◌, ◌-◌}
pub use Rattle.std.proofs.Common.{◌+◌, Option, arith, map, List, get_or, ap, ◌++◌, length, append_assoc, ◌||◌, ℕ, true}
pub use Rattle.std.proofs.Common.{drop, sym, length-append, None, is_some, suc, ◌≤◌, false, ◌<◌, refl, Result, [], ◌∙◌}
pub use Rattle.std.proofs.Common.{◌==◌, cond}
pub use Rattle.std.proofs.lemmas.Bool.{false≢true}
pub use Rattle.std.proofs.lemmas.Bool.Decides.{nat_tests, Decides-ltb, Decides-eqb, Decides-at}
pub use Rattle.std.proofs.lemmas.Int.{to_z-of_z}
pub use Rattle.std.proofs.lemmas.List.{append-nil}
pub use Rattle.std.proofs.lemmas.List.Elements.{All-weaker, All-push, All-nil}
pub use Rattle.std.proofs.lemmas.List.Folds.{list_any_at, list_any-append}
pub use Rattle.std.proofs.lemmas.List.Quantifiers.{all_pairs_push}
pub use Rattle.std.proofs.lemmas.Map.Text.{is_eq-slice_cmp}
pub use Rattle.std.proofs.lemmas.Slice.Eq.{bytes_eq-Decides}
pub use Rattle.std.specs.Cmp.{eq_by_cmp_equiv}
pub use Rattle.std.specs.Cmp.{nat_cmp_total}
pub use Rattle.std.specs.Cmp.Lexicographic.{nat_list_cmp_total}
pub use Rattle.std.specs.FinMap.{get-empty, get-insert}
pub use Rattle.std.specs.Int.{w64}
pub use Rattle.std.specs.List.{list_all, list_any}
pub use Rattle.std.specs.Ordering.{nat_cmp, eq_by_cmp}
pub use Rattle.std.specs.Prelude.{ℤ, negsuc, neg_ℤ, FitsSigned, bytes_eq, pos, SomeIff, if◌then◌else◌, ◌+ℤ◌, ◌*◌, ◌&&◌}
pub use Rattle.std.specs.Prelude.{nat_lt, nat_le, slice_index}
pub use Rattle.sk_ids.specs.Name.{name_order}
pub use Rattle.sk_objects.specs.Content.{ContentView}
pub use Rattle.sk_script.specs.Boot.{with_copy, BootView, has_object, with_object, AreFound, with_script, IsBoot}
pub use Rattle.sk_script.specs.Boot.{has_process, with_process, has_script, has_copy}
pub use Rattle.sk_script.specs.Instructions.{byte_rules, place_instruction, byte_instruction, object_instruction}
pub use Rattle.sk_script.specs.Instructions.{Labels, outer_rules, outer_instruction, place_of, value_rules}
pub use Rattle.sk_script.specs.Instructions.{object_rules, place_rules, at_label}
pub use Rattle.sk_script.specs.Forms.{is_said}
pub use Rattle.sk_script.specs.InstructionForms.{Table, value_forms, place_forms, object_forms, byte_forms, outer_forms}
pub use Rattle.sk_script.specs.Lease.{LeaseView, ran, advanced, Advances}
pub use Rattle.sk_script.specs.Private.{fits}
pub use Rattle.sk_script.specs.Registers.{register}
pub use Rattle.sk_script.specs.Same.{same_scripts, same_script}
pub use Rattle.sk_script.specs.SameLemma.{exact_scripts, exact_script}
pub use Rattle.sk_script.specs.Scripting.{line_of, Does, TellsScript, labels_of, instructions_in, labels_from, opening}
pub use Rattle.sk_script.specs.Scripting.{script_line, Ignored, ScriptState, Line, script_from, Declares, next_place}
pub use Rattle.sk_script.specs.Scripts.{ScriptMap}
pub use Rattle.sk_script.specs.StepInput.{input_rules, no_input}
pub use Rattle.sk_script.specs.declared.boot.BootObject.{BootObject}
pub use Rattle.sk_script.specs.declared.boot.BootProcess.{BootProcess}
pub use Rattle.sk_script.specs.declared.boot.ObjectKind.{ObjectKind}
pub use Rattle.sk_script.specs.declared.form.Form.{Form}
pub use Rattle.sk_script.specs.declared.instruction.Instruction.{Instruction}
pub use Rattle.sk_script.specs.declared.parse.labels.Mark.{Mark}
pub use Rattle.sk_words.proofs.FirstFault.{fault_is_behind}
pub use Rattle.sk_words.proofs.Taken.{taken}
pub use Rattle.sk_words.proofs.Unknown.{skipped, no_text}
pub use Rattle.sk_words.specs.Faults.{◌>>=◌}
pub use Rattle.sk_words.specs.Lines.{last_line, parts}
pub use Rattle.sk_words.specs.Literals.{literal, at_most_512, Plain, text_from}
pub use Rattle.sk_words.specs.Operands.{next_word, is_name, index, is_label_byte, pid, digits, positive, path, integer}
pub use Rattle.sk_words.specs.Operands.{between, label, three_of, numbered_child, wrong, below, natural, short, none_of}
pub use Rattle.sk_words.specs.Operands.{two_of, name, child, one_of, path_below}
pub use Rattle.sk_words.specs.Reading.{read_from}
pub use Rattle.sk_words.specs.Tables.{unknown, Rule}
pub use Rattle.sk_words.specs.Words.{words}
pub use Rattle.sk_words.specs.declared.fault.Fault.{Fault}
pub use Rattle.sk_words.specs.declared.fault.FaultKind.{FaultKind}
