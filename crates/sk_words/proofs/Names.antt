-- What the proofs of this crate cite from outside of them, passed on from one place. Declares nothing.
pub use Rattle.std.proofs.Common.{List, arith, ◌-◌, ◌+◌, ◌≤◌, inl, ◌%◌, ◌↔◌, length, ◌/◌, ℕ, Err, ok_or, rules, ◌∷◌}
pub use Rattle.std.proofs.Common.{zero, false, sym, map, get_or, not, subst, Ok, add-one, Option, ◌≡◌, append-nil, true}
pub use Rattle.std.proofs.Common.{Some, Bool, append_assoc, drop-cons, ◌^◌, leb, IfSome, inr, ltb, ◌==◌, suc, ap, refl}
pub use Rattle.std.proofs.Common.{take, None, drop, ◌∙◌, eqb, Result, ◌<◌, ◌≢◌, ◌*◌, IsSome, [], cond, ◌++◌}
pub use Rattle.std.proofs.Math.Seq.{drop-length, take-length}
pub use Rattle.std.proofs.lemmas.Bool.{and_parts, eq-eqb, lt-ltb, or_parts, leb-true, le-leb, le-ltb, eqb-true}
pub use Rattle.std.proofs.lemmas.Bool.{ltb-false, ltb-true, ne_eqb, eqb-false}
pub use Rattle.std.proofs.lemmas.Fmt.{digits_value-decimal, IsAscii-from_digits, digits_decimal, decimal_nonempty}
pub use Rattle.std.proofs.lemmas.Grind.{put_two, take_at_read}
pub use Rattle.std.proofs.lemmas.List.{length-set, take_more_set, length-take-le, length-drop, take-append-drop}
pub use Rattle.std.proofs.lemmas.List.{length-append, take_all}
pub use Rattle.std.proofs.lemmas.List.Concat.{flat_map-append}
pub use Rattle.std.proofs.lemmas.List.Elements.{All-tail, All-head}
pub use Rattle.std.proofs.lemmas.List.Folds.{list_any-append, list_all-append, flat_map-map}
pub use Rattle.std.proofs.lemmas.List.Sums.{AllPass-from_list_all, list_all-from_AllPass}
pub use Rattle.std.proofs.lemmas.Slice.Eq.{bytes_eq-Decides}
pub use Rattle.std.proofs.lemmas.Str.{IsUtf8-from_ascii}
pub use Rattle.std.proofs.lemmas.Str.Parse.{numerals_by_value, parse_signed_plain, parse_signed_minus, IsNumeralModel}
pub use Rattle.std.proofs.lemmas.Str.Parse.{tells_all_ascii_digits}
pub use Rattle.std.specs.Char.{digit_value}
pub use Rattle.std.specs.Fmt.{IsPlainFormatter, HasWritten}
pub use Rattle.std.specs.Int.{w64}
pub use Rattle.std.specs.List.{starts_with, onto_first, list_any, list_all, AllByRecursion}
pub use Rattle.std.specs.Prelude.{◌⊎◌, IsUtf8, bytes_eq, flat_map, OkIff, pos, ◌&&◌, All, ◌||◌, decimal, IsAscii, neg_ℤ}
pub use Rattle.std.specs.Prelude.{ℤ, fold}
pub use Rattle.std.specs.Result.{result_ok}
pub use Rattle.std.specs.Str.{all_ascii_digits}
pub use Rattle.std.specs.Str.Lines.{lines_of_parts, strip_carriage_return, lines}
pub use Rattle.std.specs.Str.Parse.{digits_value, ParsesSigned, digits_value_after}
pub use Rattle.sk_ids.specs.Name.{IsName, is_name_byte}
pub use Rattle.sk_ids.specs.Pid.{IsPath}
pub use Rattle.sk_words.specs.Lines.{parts, last_line}
pub use Rattle.sk_words.specs.Literals.{text_from, at_most_512, hex_digit, Plain, literal, then_byte}
pub use Rattle.sk_words.specs.Operands.{path_below, name, next_word, digits, natural, wrong, below, integer, child}
pub use Rattle.sk_words.specs.Operands.{path, SaysSome, index, is_name, pid, positive}
pub use Rattle.sk_words.specs.Parts.{part_text}
pub use Rattle.sk_words.specs.Printed.{is_bare_word, AreBytes, IsReadAgain, ends_line, IsLine, lined, IsWord}
pub use Rattle.sk_words.specs.Reading.{TellsKind, IsFirstFault, Tells, at, read_from}
pub use Rattle.sk_words.specs.Spelling.{hex_glyph, two_levels, pid_word, spelled_byte, spaced, spelled}
pub use Rattle.sk_words.specs.Tables.{rule_in, Rule}
pub use Rattle.sk_words.specs.Words.{is_blank, is_open_from, words, has_quote, is_open, words_from}
pub use Rattle.sk_words.specs.declared.fault.Fault.{Fault}
pub use Rattle.sk_words.specs.declared.fault.FaultKind.{FaultKind}
pub use Rattle.sk_words.specs.declared.line.Place.{Place}
pub use Rattle.sk_words.specs.declared.line.Place.TheVariants.{Literal, Word, Escape, Between}
