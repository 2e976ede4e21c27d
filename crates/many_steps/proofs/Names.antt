-- What the proofs of this crate cite from outside of them, passed on from one place. Declares nothing.
pub use Rattle.std.proofs.Common.{◌≡◌}
pub use Rattle.hidewillow.specs.UndoState.{numbers}
