-- What the proofs of this crate cite from outside of them, passed on from one place. Declares nothing.
pub use Rattle.std.proofs.Common.{true, ◌∙◌, ap, ◌≡◌, ◌∷◌, sym, ℕ, false, List, []}
pub use Rattle.std.proofs.lemmas.Bool.{true≢false}
pub use Rattle.sk_record.specs.Notes.{has, last_tags}
pub use Rattle.sk_undo.specs.Kept.{runs_of}
pub use Rattle.sk_undo.specs.Log.{Covers}
