use Rattle.sk_requests.proofs.Names.{sym, ◌∙◌, false≢true}
use Rattle.sk_requests.proofs.reader.add.Goals as goal

pub returns-then-not-keeping-clause-ok : goal.returns-then-not-keeping-clause-ok
returns-then-not-keeping-clause-ok c = λ yes. absurd (false≢true (sym c.if-not-keeping.true ∙ yes))

pub returns-clause-ok : goal.returns-clause-ok
returns-clause-ok c = λ _. c.in_ok-extend_from_slice.ensures.items
