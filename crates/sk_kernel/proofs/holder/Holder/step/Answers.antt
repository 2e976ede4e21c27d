-- A step decides no guess and opens none.
use Rattle.sk_trace.specs.Kept.{input_in}
use Rattle.sk_kernel.proofs.Kept.{steps_hold}
use Rattle.sk_kernel.proofs.holder.Holder.step.Goals as goal

pub invariant_of-self : goal.invariant_of-self
invariant_of-self c = steps_hold c.step_lent.result _ c.args.pid (input_in c.args.input) c.self.inside.kernel c.step_lent.new.self c.self.inside.tokens.items c.step_lent.ensures c.self.invariant
