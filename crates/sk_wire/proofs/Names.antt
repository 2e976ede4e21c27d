-- What the proofs of this crate cite from outside of them, passed on from one place. Declares nothing.
pub use Rattle.std.proofs.Common.{ap, zero-le, length-append, suc, zero, ◌++◌, ◌≡◌, ◌+◌, length, false, ◌<◌, arith}
pub use Rattle.std.proofs.Common.{refl, append_assoc, true≢false, set, ℕ, List, [], subst, ◌≢◌, true, ◌∙◌, ⊎_elim, ◌∷◌}
pub use Rattle.std.proofs.Common.{sym}
pub use mathlib.Core.Option.{some, some-ne-none}
pub use Rattle.crossbeam_queue.proofs.Lists.{at_snoc, at_set}
pub use Rattle.crossbeam_queue.specs.Fifo.{Pops, Forks, Learns, Merges, Pushes}
pub use Rattle.sk_wire.specs.Rule.{KnowsAll, IsInTurn, receiver, AreNumbered, IsNext, IsLeft, sender, joined, with_sent}
pub use Rattle.sk_wire.specs.Rule.{with_received, known}
pub use Rattle.sk_wire.specs.declared.rule.PassView.{PassView}
pub use Rattle.sk_wire.specs.declared.rule.TheConstants.{WIRE_ITEMS}
pub use lib.ListN.{get_elem?}
