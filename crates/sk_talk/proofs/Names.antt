-- What the proofs of this crate cite from outside of them, passed on from one place. Declares nothing.
pub use Rattle.std.proofs.Common.{ap, Some, None, Err, is_some, ◌≡◌, take, false, Option, refl, ℕ, Result, List, []}
pub use Rattle.std.proofs.Common.{subst, true, ◌∙◌, Ok, ◌∷◌, sym}
pub use Rattle.std.proofs.lemmas.Bool.{or_parts, true≢false}
pub use Rattle.std.proofs.lemmas.Slice.Eq.{bytes_eq-Decides}
pub use Rattle.std.specs.Cmp.{eq_by_cmp_equiv, Equal-is}
pub use Rattle.std.specs.Io.KnownBytes.{Appends}
pub use Rattle.std.specs.List.{find, AllByRecursion, list_any}
pub use Rattle.std.specs.Ordering.{eq_by_cmp}
pub use Rattle.sk_ids.specs.EntityLemma.{entity_total, entity_exact}
pub use Rattle.sk_ids.specs.Entity.{entity_cmp}
pub use Rattle.sk_ids.specs.declared.entity.Entity.{Entity}
pub use Rattle.sk_ids.specs.declared.entity.Entity.TheVariants.{Proc}
pub use Rattle.sk_kernel.specs.Kernel.{state_at, KernelView}
pub use Rattle.sk_questions.proofs.Again.{entity_again, words_cut_again}
pub use Rattle.sk_questions.specs.Named.{entity, entity_words, IsEntity}
pub use Rattle.sk_record.specs.Machine.{released}
pub use Rattle.sk_report.proofs.Shown.{nothing_there, shown_there}
pub use Rattle.sk_report.specs.Printed.{entity_text}
pub use Rattle.sk_report.specs.Report.{texts_lines, said_there}
pub use Rattle.sk_store.specs.declared.entity_state.EntityState.{EntityState}
pub use Rattle.sk_talk.specs.Asked.{is_named, named, named_by, present_as}
pub use Rattle.sk_words.specs.Spelling.{spaced}
pub use Rattle.sk_words.specs.Words.{words}
pub use Rattle.sk_words.specs.declared.fault.FaultKind.{FaultKind}
