-- What the proofs of this crate cite from outside of them, passed on from one place. Declares nothing.
pub use Rattle.std.proofs.Common.{Bool, vec_len, subst, inr, ◌∷◌, zero-add, inl, zero, ◌≡◌, rules, ◌-◌, ◌+◌, arith}
pub use Rattle.std.proofs.Common.{List, ◌/◌, ap₂, get_or, replicate, ap, ◌*◌, ◌++◌, length, take-add, ℕ, true, drop}
pub use Rattle.std.proofs.Common.{sym, suc, ◌≤◌, take, false, ◌<◌, refl, [], ◌%◌, ◌∙◌}
pub use Rattle.std.proofs.Math.Seq.{take-append-add, drop-append-add}
pub use Rattle.std.proofs.lemmas.Bool.{ltb-false, cases_lt, lt-ltb, false≢true, ltb-true, le-ltb}
pub use Rattle.std.proofs.lemmas.Bool.Decides.{Decides-and, same_from_decides, Decides-like}
pub use Rattle.std.proofs.lemmas.List.{get_or_past, get_or-take, length-take, get_or-replicate, length-take-le}
pub use Rattle.std.proofs.lemmas.List.{same_lists, get_or-drop, drop_all, drop-drop, get_or-append_right}
pub use Rattle.std.proofs.lemmas.List.{length-replicate, take-take, drop_at, length-drop, drop-take, take_all}
pub use Rattle.std.proofs.lemmas.List.{append_assoc, take-append-le, take-append-drop, drop-append-le}
pub use Rattle.std.proofs.lemmas.List.{get_or_append_left, length-append, get_or_default, take_at, append-nil}
pub use Rattle.std.proofs.lemmas.List.{length-set, get_or-set_other}
pub use Rattle.std.proofs.lemmas.List.Elements.{All-head, All-get_or, All-tail, All-take, All-replicate, All-append}
pub use Rattle.std.proofs.lemmas.List.Elements.{All-cons}
pub use Rattle.std.specs.Bool.{Decides}
pub use Rattle.std.specs.Cmp.Lexicographic.{pointwise_decides}
pub use Rattle.std.specs.Prelude.{◌&&◌, slice_set, if◌then◌else◌, nat_lt}
pub use Rattle.std.specs.Vec.{vec_capacity}
pub use Rattle.sk_objects.specs.Blocks.{AreBlocks, blank, joined}
pub use Rattle.sk_objects.specs.File.{part, written, cut, blocks_of, overwritten, filled}
pub use Rattle.sk_objects.specs.Pipe.{PipeView}
pub use Rattle.sk_objects.specs.Ring.{wrapped, turned, ring_bytes}
pub use Rattle.sk_objects.specs.Same.{same_bytes}
pub use Rattle.sk_objects.specs.SameLemma.{exact_bytes}
pub use Rattle.sk_objects.specs.Slots.{AreSlots, IsZeroFrom}
