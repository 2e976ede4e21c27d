-- What the pass leaves.
use Rattle.sk_batches.proofs.Names.{rules, filter_same}
use Rattle.sk_batches.proofs.records.drop_struck.Goals as goal

pub returns : goal.returns
returns c = filter_same _ _ _ (λ x b g h. search rules) _ _ c.retain.ensures.filtered
