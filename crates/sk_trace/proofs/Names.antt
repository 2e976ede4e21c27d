-- What the proofs of this crate cite from outside of them, passed on from one place. Declares nothing.
pub use Rattle.std.proofs.Common.{ap, Err, ◌++◌, ◌≡◌, ◌^◌, take, ◌<◌, arith, refl, ℕ, Result, List, [], ◌∙◌, Ok, ◌∷◌}
pub use Rattle.std.proofs.Common.{sym}
pub use Rattle.std.specs.List.{AllByRecursion}
pub use Rattle.std.specs.Prelude.{decimal, string_bytes, codes, All}
pub use Rattle.sk_ids.specs.Guess.{IsGuessNumber}
pub use Rattle.sk_ids.specs.Pid.{IsPath}
pub use Rattle.sk_objects.specs.Content.{ContentView}
pub use Rattle.sk_objects.specs.Value.{IsContent}
pub use Rattle.sk_script.specs.StepInput.{content_words, input_words}
pub use Rattle.sk_script.specs.declared.instruction.Input.{Input}
pub use Rattle.sk_trace.specs.Event.{IsEvent}
pub use Rattle.sk_trace.specs.Kept.{IsInput}
pub use Rattle.sk_trace.specs.Lines.{trace_of, event_line}
pub use Rattle.sk_trace.specs.Text.{trace_text, event_text, event_words}
pub use Rattle.sk_trace.specs.declared.event.Event.{Event}
pub use Rattle.sk_words.proofs.ItemsAgain.{each, text_again, by_recursion}
pub use Rattle.sk_words.proofs.LiteralAgain.{literal_again, literal_word}
pub use Rattle.sk_words.proofs.NumberAgain.{natural_again, positive_again, number_word}
pub use Rattle.sk_words.proofs.PidAgain.{pid_again, pid_is_word}
pub use Rattle.sk_words.proofs.WordsAgain.{bare_word, words_again, spaced_line, words_closed}
pub use Rattle.sk_words.specs.Literals.{literal}
pub use Rattle.sk_words.specs.Operands.{pid, natural, positive}
pub use Rattle.sk_words.specs.Printed.{IsWord, AreBytes, IsReadAgain}
pub use Rattle.sk_words.specs.Spelling.{pid_word, spelled}
pub use Rattle.sk_words.specs.Tables.{with_line}
pub use Rattle.sk_words.specs.Words.{first_of, words}
pub use Rattle.sk_words.specs.declared.fault.Fault.{Fault}
pub use Rattle.sk_words.specs.declared.fault.FaultKind.{FaultKind}
