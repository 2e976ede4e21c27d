-- No token is held, before and behind it; so no guess is undecided.
use Rattle.sk_kernel.proofs.Names.{◌∙◌, ap, HolderView}
use Rattle.sk_kernel.proofs.Kept.{none_held, epoch_holds, only_memory}
use Rattle.sk_kernel.proofs.holder.Holder.new_epoch.Goals as goal

pub invariant_of-self : goal.invariant_of-self
invariant_of-self c =
    epoch_holds c.new_epoch.result c.self.inside.kernel c.new_epoch.new.self c.self.inside.tokens.items (ap (λ (h : HolderView). h.held) c.self.view_is ∙ c.requires) c.new_epoch.ensures c.self.invariant

pub returns-clause-memory : goal.returns-clause-memory
returns-clause-memory c =
    let none = none_held c.self.inside.kernel c.self.inside.tokens.items (ap (λ (h : HolderView). h.held) c.self.view_is ∙ c.requires) c.self.invariant in
    only_memory c.new_epoch.result c.self.inside.kernel c.new_epoch.new.self none c.new_epoch.ensures
