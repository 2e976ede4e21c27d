-- The names of other crates, and of the types of this one, that definitions and clauses cite. Declares nothing.
pub use Rattle.sk_changes.specs.declared.change.Change.{Change}
pub use Rattle.sk_changes.specs.declared.change.Change.TheVariants.{CutTo, PushSignal, Put, SetCopy, SetExit, Shut, Take, TakeSignal, WriteAt}
pub use Rattle.sk_changes.specs.declared.change.Undo.{Undo}
pub use Rattle.sk_changes.specs.declared.change.Undo.TheVariants.{ClearExit, Recopy, Reopen, Requeue, Restore, Unpush, Unput, Untake}
pub use Rattle.sk_ids.specs.declared.text.TheConstants.{TEXT_LIMIT}
pub use Rattle.sk_objects.proofs.Bytes.{length_cut, zeros_behind}
pub use Rattle.sk_objects.specs.Content.{ContentView}
pub use Rattle.sk_objects.specs.File.{cut, written}
pub use Rattle.sk_objects.specs.Pipe.{PipeView}
pub use Rattle.sk_objects.specs.Signals.{IsSignal}
pub use Rattle.sk_objects.specs.Slots.{IsZeroFrom}
pub use Rattle.sk_objects.specs.Value.{IsContent, IsStatus, IsValue}
pub use Rattle.sk_objects.specs.declared.file.TheConstants.{FILE_LIMIT}
pub use Rattle.sk_objects.specs.declared.pipe.TheConstants.{PIPE_LIMIT}
pub use Rattle.sk_objects.specs.declared.signals.TheConstants.{LAST_SIGNAL, SIGNALS_LIMIT}
pub use Rattle.sk_objects.specs.declared.value.Value.{Value}
pub use Rattle.sk_objects.specs.declared.value.Value.TheVariants.{Copy, Exit, File, Pipe, Signals}
pub use Rattle.std.proofs.Common.{ap, arith, inl, inr, refl, sym, ◌∙◌}
pub use Rattle.std.proofs.lemmas.Bool.{cases_lt, false≢true, le-ltb, lt-ltb, not-true}
pub use Rattle.std.proofs.lemmas.List.{get_or_past, length-append, length-drop, length-take, take-append-drop, take_all, take_at}
pub use Rattle.std.proofs.lemmas.List.Elements.{All-head}
