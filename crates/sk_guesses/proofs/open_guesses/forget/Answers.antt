-- What the pass leaves.
use Rattle.sk_guesses.proofs.Names.{rules, filter_same}
use Rattle.sk_guesses.proofs.open_guesses.forget.Goals as goal

pub returns-clause-struck : goal.returns-clause-struck
returns-clause-struck c = filter_same _ _ _ (λ x b g h. search rules) _ _ c.retain.ensures.filtered
