-- The names of other crates, and of the types of this one, that definitions and clauses cite. Declares nothing.
pub use Rattle.sk_ids.specs.Exact.{exact_from, exact_option}
pub use Rattle.sk_ids.specs.Name.{name_order}
pub use Rattle.sk_ids.specs.Pid.{boot_pid}
pub use Rattle.sk_ids.specs.Same.{IsExact, exact_map, same_map}
pub use Rattle.sk_ids.specs.SameLemma.{exact_bytes, exact_object, exact_text}
pub use Rattle.sk_ids.specs.declared.pid.ObjId.{ObjId}
pub use Rattle.sk_objects.specs.Content.{ContentView, content_code}
pub use Rattle.sk_script.specs.declared.boot.BootFault.{BootFault}
pub use Rattle.sk_script.specs.declared.boot.BootFault.TheVariants.{Duplicate, Memory, NoScript}
pub use Rattle.sk_script.specs.declared.boot.BootObject.{BootObject}
pub use Rattle.sk_script.specs.declared.boot.BootProcess.{BootProcess}
pub use Rattle.sk_script.specs.declared.boot.ObjectKind.{ObjectKind}
pub use Rattle.sk_script.specs.declared.boot.ObjectKind.TheVariants.{Dir}
pub use Rattle.sk_script.specs.declared.form.Form.{Form}
pub use Rattle.sk_script.specs.declared.form.Form.TheVariants.{Index, Label, Literal, Name, Number, Register}
pub use Rattle.sk_script.specs.declared.instruction.Input.{Input}
pub use Rattle.sk_script.specs.declared.instruction.Instruction.{Instruction}
pub use Rattle.sk_script.specs.declared.instruction.Instruction.TheVariants.{Add, BootPid, Cut, Exit, Fetch, Fork, Handler, Jump, Kill, Len, Link, Look, MakeDir, MakeFile, MakePipe, Move, Negative, Put, Read, Return, Say, SelfPid, Set, Shut, Size, Store, Take, Text, Unlink, Wait, Write, Zero}
pub use Rattle.sk_script.specs.declared.process.Process.{Process}
pub use Rattle.sk_script.specs.declared.register.Val.{Val}
pub use Rattle.sk_script.specs.declared.register.Val.TheVariants.{Num, Obj, Who}
pub use Rattle.sk_words.specs.Faults.{◌>>=◌}
pub use Rattle.sk_words.specs.Lines.{last_line}
pub use Rattle.sk_words.specs.Literals.{literal}
pub use Rattle.sk_words.specs.Operands.{index, integer, label, name, natural, none_of, one_of, pid, positive, short, three_of, two_of, wrong}
pub use Rattle.sk_words.specs.Reading.{Leaves, read_from}
pub use Rattle.sk_words.specs.Spelling.{object_word, pid_word, spelled}
pub use Rattle.sk_words.specs.Tables.{Rule, by_first, rule_in, unknown}
pub use Rattle.sk_words.specs.Words.{words}
pub use Rattle.sk_words.specs.declared.fault.Fault.{Fault}
pub use Rattle.sk_words.specs.declared.fault.FaultKind.{FaultKind}
pub use Rattle.std.proofs.Common.{ap}
pub use Rattle.std.specs.Arc.{arc_value}
pub use Rattle.std.specs.Cmp.{booleans_Decides, first_so, second_so, signed_Decides, unsigned_Decides}
pub use Rattle.std.specs.Cmp.Lexicographic.{pointwise, pointwise_decides}
pub use Rattle.std.specs.Coded.{Coded, code_by, coded_list, coded_ℕ, coded×}
pub use Rattle.std.specs.Fmt.{signed_decimal}
pub use Rattle.std.specs.List.{list_any}
pub use Rattle.std.specs.Option.{option_copied}
pub use Rattle.std.specs.Ordering.{nat_cmp}
pub use Rattle.std.specs.Result.{result_ok}
pub use Rattle.std.specs.Str.Lines.{lines}
