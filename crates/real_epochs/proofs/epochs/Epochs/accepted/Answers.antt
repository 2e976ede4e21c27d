-- The oldest epoch is accepted, by its own token.
use Rattle.real_epochs.proofs.Names.{◌≡◌, ◌==◌, ◌∷◌, Ok, Err, Some, false, refl, subst, nat_cmp, CommitPost}
use Rattle.std.proofs.Common.{rules, length}
use Rattle.real_epochs.specs.Calls.{Accepted}
use Rattle.real_epochs.specs.Story.{with_call, Accepts}
use Rattle.real_epochs.specs.Tells.{EpochsView}
use Rattle.real_epochs.proofs.Plugs.{front_is, no_stranger, oldest_told}
use Rattle.real_epochs.proofs.Reply.{accept_goes}
use Rattle.real_epochs.proofs.epochs.Epochs.accepted.Goals as goal

pub unreachable-requires : goal.unreachable-requires
unreachable-requires c =
    let some : (length c.self.inside.line.items == 0) ≡ false = search rules in
    let front = front_is c.self.inside.line.items c.remove-token.new.self.items c.remove-token.result some c.remove-token.ensures.value c.remove-token.ensures.items in
    no_stranger (record { parts = c.self.inside.kernel; line = c.self.inside.line.items }) c.remove-token.result c.remove-token.new.self.items front c.self.invariant
    (subst (λ r. CommitPost nat_cmp c.self.inside.kernel c.remove-token.result.token r c.commit.new.self) c.in-Err.is c.commit.ensures).0

pub invariant_of-self : goal.invariant_of-self
invariant_of-self c =
    let some : (length c.self.inside.line.items == 0) ≡ false = search rules in
    let front = front_is c.self.inside.line.items c.remove-token.new.self.items c.remove-token.result some c.remove-token.ensures.value c.remove-token.ensures.items in (
      with_call Accepts c.self.invariant.0,
      accept_goes (record { parts = c.self.inside.kernel; line = c.self.inside.line.items }) (record { parts = c.commit.new.self; line = c.remove-token.new.self.items }) c.remove-token.result
          c.remove-token.new.self.items front refl c.in-Ok._committed
          (subst (λ r. CommitPost nat_cmp c.self.inside.kernel c.remove-token.result.token r c.commit.new.self) c.in-Ok.is c.commit.ensures)
          c.self.invariant.0 c.self.invariant.1,
    )

pub returns : goal.returns
returns c =
    let some : (length c.self.inside.line.items == 0) ≡ false = search rules in
    let front = front_is c.self.inside.line.items c.remove-token.new.self.items c.remove-token.result some c.remove-token.ensures.value c.remove-token.ensures.items in
    let a : EpochsView = record { parts = c.self.inside.kernel; line = c.self.inside.line.items } in
    let b : EpochsView = record { parts = c.commit.new.self; line = c.remove-token.new.self.items } in
    subst (λ (v : EpochsView). Accepted (Some c.remove-token.result.checkpoint) v b) c.self.view_is (
      oldest_told a c.remove-token.result c.remove-token.new.self.items front,
      accept_goes a b c.remove-token.result c.remove-token.new.self.items front refl c.in-Ok._committed
          (subst (λ r. CommitPost nat_cmp c.self.inside.kernel c.remove-token.result.token r c.commit.new.self) c.in-Ok.is c.commit.ensures),
    )
