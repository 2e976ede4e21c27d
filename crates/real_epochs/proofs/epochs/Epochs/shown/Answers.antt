-- An output that is taken out is the next.
use Rattle.real_epochs.proofs.Names.{refl, subst}
use Rattle.real_epochs.specs.Calls.{Shown}
use Rattle.real_epochs.specs.Tells.{EpochsView}
use Rattle.real_epochs.proofs.Plugs.{shown_post, shown_told}
use Rattle.real_epochs.proofs.epochs.Epochs.shown.Goals as goal

pub invariant_of-self : goal.invariant_of-self
invariant_of-self c =
    shown_told (record { parts = c.self.inside.kernel; line = c.self.inside.line.items }) (record { parts = c.released.new.self; line = c.self.inside.line.items }) c.args.stream
    c.released.ensures.same refl c.released.ensures.others c.released.result c.released.ensures.first c.released.ensures.none c.self.invariant

pub returns : goal.returns
returns c =
    let b : EpochsView = record { parts = c.released.new.self; line = c.self.inside.line.items } in
    subst (λ (v : EpochsView). Shown c.args.stream c.released.result v b) c.self.view_is
    (shown_post (record { parts = c.self.inside.kernel; line = c.self.inside.line.items }) b c.args.stream c.released.ensures.same refl c.released.ensures.others
    c.released.result c.released.ensures.first c.released.ensures.none c.released.ensures.held)
