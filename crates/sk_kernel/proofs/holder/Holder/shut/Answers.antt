-- Each undecided guess is held, and none is.
use Rattle.sk_kernel.proofs.Names.{◌∙◌, ap, arith, HolderView}
use Rattle.sk_kernel.proofs.Kept.{no_token, none_held}
use Rattle.sk_kernel.proofs.holder.Holder.shut.Goals as goal

pub shut-requires : goal.shut-requires
shut-requires c = none_held c.self.inside.kernel c.self.inside.tokens.items (ap (λ (h : HolderView). h.held) c.self.view_is ∙ c.requires) c.self.invariant

pub destroy_empty-requires : goal.destroy_empty-requires
destroy_empty-requires c = omega (arith, no_token c.self.inside.tokens.items (ap (λ (h : HolderView). h.held) c.self.view_is ∙ c.requires))
