-- Where all is settled nothing is done.
use Rattle.sk_speculator.proofs.writes.settle_rest.Goals as goal

pub returns-then-done-clause-settled : goal.returns-then-done-clause-settled
returns-then-done-clause-settled g c = λ _. c.requires c.if-done.true
