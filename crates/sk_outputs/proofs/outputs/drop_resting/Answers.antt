-- What the pass leaves.
use Rattle.sk_outputs.proofs.Names.{rules, filter_same}
use Rattle.sk_outputs.proofs.outputs.drop_resting.Goals as goal

pub returns : goal.returns
returns g c = filter_same _ _ _ (λ x b g h. search rules) _ _ c.retain.ensures.filtered
