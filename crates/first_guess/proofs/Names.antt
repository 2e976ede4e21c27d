-- What the proofs of this crate cite from outside of them, passed on from one place. Declares nothing.
pub use Rattle.std.proofs.Common.{◌∙◌, ap, refl, ◌≡◌, sym, length, ℕ, ◌∷◌, List, suc, []}
pub use Rattle.hidewillow.specs.Machine.{released}
pub use Rattle.hidewillow.specs.Parts.{said_at}
pub use Rattle.hidewillow.specs.Terminal.{TaggedText}
