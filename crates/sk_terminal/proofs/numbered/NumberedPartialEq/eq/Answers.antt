-- The test of the maps.
use Rattle.sk_terminal.proofs.Names.{◌∙◌, same_terminals}
use Rattle.sk_terminal.proofs.numbered.NumberedPartialEq.eq.Goals as goal

pub returns : goal.returns
returns c = c.eq.ensures.computed ∙ (λ i. same_terminals (c.self.view_is i) (c.other.view_is i))
