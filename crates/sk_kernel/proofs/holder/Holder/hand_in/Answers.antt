-- A hand-in decides no guess and opens none.
use Rattle.sk_kernel.proofs.Kept.{taken_in}
use Rattle.sk_kernel.proofs.holder.Holder.hand_in.Goals as goal

pub invariant_of-self : goal.invariant_of-self
invariant_of-self c = taken_in c.hand_in.result c.args.lease c.self.inside.kernel c.hand_in.new.self c.self.inside.tokens.items c.hand_in.ensures c.self.invariant
