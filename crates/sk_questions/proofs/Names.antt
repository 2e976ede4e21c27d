-- What the proofs of this crate cite from outside of them, passed on from one place. Declares nothing.
pub use Rattle.std.proofs.Common.{ap, Some, eqb, ◌++◌, length, ℕ, true, ltb, Ok, drop, ◌∷◌, sym, None, Err, ◌≡◌, ◌^◌}
pub use Rattle.std.proofs.Common.{rules, take, false, Option, ◌<◌, arith, refl, List, Result, [], ◌%◌, ◌∙◌, ◌/◌, get_or, IfSome}
pub use Rattle.std.proofs.lemmas.Bool.{or_parts, le-leb, ltb-false, lt-leb, lt-ltb, and_parts, ne_eqb}
pub use Rattle.std.proofs.lemmas.Fmt.{decimal_nonempty, digits_value-decimal, digits_decimal}
pub use Rattle.std.proofs.lemmas.List.Folds.{list_all-append, list_any-append}
pub use Rattle.std.proofs.lemmas.List.Sums.{list_all-from_AllPass}
pub use Rattle.std.proofs.lemmas.Slice.Eq.{bytes_eq-Decides}
pub use Rattle.std.proofs.lemmas.Str.Parse.{tells_all_ascii_digits}
pub use Rattle.std.specs.List.{AllByRecursion, list_all, list_any}
pub use Rattle.std.specs.Prelude.{bytes_eq, decimal, codes}
pub use Rattle.std.specs.Str.{all_ascii_digits}
pub use Rattle.sk_ids.specs.Name.{is_name_byte, IsName}
pub use Rattle.sk_ids.specs.Pid.{IsPath}
pub use Rattle.sk_ids.specs.declared.entity.Entity.{Entity}
pub use Rattle.sk_ids.specs.declared.entity.Entity.TheVariants.{Link, Proc, Copy, Exit, Sig, Obj}
pub use Rattle.sk_ids.specs.declared.pid.ObjId.{ObjId}
pub use Rattle.sk_questions.specs.Named.{entity_words, entity_rules, object, IsEntity, maker, halves, entity}
pub use Rattle.sk_questions.specs.Named.{IsObject}
pub use Rattle.sk_questions.specs.Questions.{question_rules, no_question}
pub use Rattle.sk_words.proofs.Numbers.{number_is, own}
pub use Rattle.sk_words.proofs.PidAgain.{pid_again, pid_is_word}
pub use Rattle.sk_words.proofs.Unknown.{skipped, no_text}
pub use Rattle.sk_words.proofs.WordsAgain.{bare_word, words_again}
pub use Rattle.sk_words.specs.Operands.{is_name, pid, short, digits, name}
pub use Rattle.sk_words.specs.Printed.{IsWord, is_bare_word}
pub use Rattle.sk_words.specs.Spelling.{spaced, pid_word, maker_word, object_word, two_levels}
pub use Rattle.sk_words.specs.Tables.{unknown}
pub use Rattle.sk_words.specs.Words.{words}
pub use Rattle.sk_words.specs.declared.fault.FaultKind.{FaultKind}
