-- What the proofs of this crate cite from outside of them, passed on from one place. Declares nothing.
pub use Rattle.std.proofs.Common.{◌≡◌, ◌+◌, ◌++◌, ◌∷◌, ◌∙◌, List, ℕ, map, length, sym, ap}
pub use Rattle.std.proofs.KnownBytes.{Appends-trans}
pub use Rattle.std.proofs.lemmas.List.{append_assoc}
pub use Rattle.std.specs.Io.KnownBytes.{Appends}
pub use Rattle.std.specs.Prelude.{vec_items}
pub use Rattle.std.specs.Str.Lines.{lines}
pub use Rattle.sk_words.specs.Words.{words}
pub use Rattle.sk_source.specs.Script.{at_place, has_colon, in_script}
pub use Rattle.sk_source.specs.Source.{events_from, events_in}
pub use Rattle.sk_source.specs.Told.{spelled}
