-- What the proofs of this crate cite from outside of them, passed on from one place. Declares nothing.
pub use Rattle.std.proofs.Common.{arith, ap, refl, List, [], ◌∙◌, ◌++◌, ◌≡◌, ◌≤◌, ◌∷◌, ◌+◌, length, sym}
pub use Rattle.std.proofs.lemmas.List.{length-append}
pub use Rattle.std.proofs.lemmas.Option.{slice_get_within}
pub use Rattle.std.specs.Prelude.{option_to_list, Option}
pub use Rattle.crossbeam_queue.specs.Passes.{view}
pub use Rattle.sk_wire.specs.Wire.{IsReceiving, IsSending}
pub use Rattle.sk_workers.proofs.Closed.{distinct}
pub use Rattle.sk_workers.specs.Closing.{AreDistinct, numbers}
pub use Rattle.sk_workers.specs.Views.{WorkerView}
