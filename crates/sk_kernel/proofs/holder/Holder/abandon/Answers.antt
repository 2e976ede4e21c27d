-- All tokens are spent.
use Rattle.sk_kernel.proofs.Names.{◌∙◌, ap, arith, HolderView}
use Rattle.sk_kernel.proofs.Kept.{no_token}
use Rattle.sk_kernel.proofs.holder.Holder.abandon.Goals as goal

pub destroy_empty-requires : goal.destroy_empty-requires
destroy_empty-requires c = omega (arith, no_token c.holder.inside.tokens.items (ap (λ (h : HolderView). h.held) c.holder.view_is ∙ c.spend.ensures.held))
