-- What the proofs of this crate cite from outside of them, passed on from one place. Declares nothing.
pub use Rattle.std.proofs.Common.{IfSome, ap, Some, None, string_bytes, ◌≤◌, ◌≡◌, option_map, false, Option, refl, ℕ}
pub use Rattle.std.proofs.Common.{codes, List, [], subst, vec_len, true, ◌∙◌, ap₂, sym, map}
pub use Rattle.std.proofs.KnownBytes.{Appends-kept}
pub use Rattle.std.proofs.lemmas.Result.{IfOk-weaker}
pub use Rattle.std.specs.Io.KnownBytes.{Appends, Keeps, Consumes}
pub use Rattle.std.specs.Prelude.{unwrap_or, Bool, ◌||◌}
pub use Rattle.std.specs.Str.Parse.{digits_value, without_leading_plus}
pub use Rattle.clap.proofs.ValueTestLemmas.{Accepts-accepts, accepts-Accepts}
pub use Rattle.clap.proofs.WalkLemmas.{first_value-rows}
pub use Rattle.clap.specs.Faults.{is_simple_and_free, fault_of}
pub use Rattle.clap.specs.Kinds.{HasKind}
pub use Rattle.clap.specs.Matches.{found_of, subcommand_name_of}
pub use Rattle.clap.specs.Simple.{App, with_rule, with_subcommand, subcommand_of, is_simple, subcommand_rows_of}
pub use Rattle.clap.specs.ValueTests.{is_unsigned_in}
pub use Rattle.clap.specs.Values.{IsUnsignedIn}
pub use Rattle.clap.specs.Walk.{Row, Text, rows_of}
pub use Rattle.clap.specs.declared.parser.matches.ArgMatches.{ArgMatches}
pub use Rattle.clap.specs.declared.parser.matches.ArgMatches.TheViews.{out-ArgMatches}
pub use Rattle.sk_command.specs.CommandLine.{wish_for, wish_found, number_said, command_line}
pub use Rattle.sk_command.specs.Ends.{EndsWithHelp, IsWritten, IsFlushed}
pub use Rattle.sk_command.specs.ReadAll.{INPUT_LIMIT}
pub use Rattle.sk_command.specs.declared.end.End.{End}
