-- What stays is a filter: from std's lemma on `retain`.
use Rattle.sk_terminal.proofs.Names.{rules, filter_same}
use Rattle.sk_terminal.proofs.terminal.drop_resting.Goals as goal

pub returns-clause-texts : goal.returns-clause-texts
returns-clause-texts c = filter_same _ _ _ (λ x b g h. search rules) _ _ c.retain.ensures.filtered
