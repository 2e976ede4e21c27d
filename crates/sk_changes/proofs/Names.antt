-- What the proofs of this crate cite from outside of them, passed on from one place. Declares nothing.
pub use Rattle.std.proofs.Common.{ap, refl, add-one, vec_len, subst, ◌∙◌, ◌≡◌, drop, ◌+◌, get_or, sym}
pub use Rattle.std.proofs.Math.Seq.{drop-cons}
pub use Rattle.std.specs.Prelude.{List, [], ◌++◌, ◌∷◌, fold}
pub use Rattle.sk_changes.specs.Back.{back, CanGoBack}
pub use Rattle.sk_changes.specs.InTurn.{all_fit}
pub use Rattle.sk_changes.specs.declared.change.Undo.{Undo}
