-- What stays is a filter: from std's lemma on `retain`.
use Rattle.sk_client.proofs.Names.{rules, filter_same}
use Rattle.sk_client.proofs.desk.forget.Goals as goal

pub returns-clause-items : goal.returns-clause-items
returns-clause-items c = filter_same _ _ _ (λ x b g h. search rules) _ _ c.retain.ensures.filtered
