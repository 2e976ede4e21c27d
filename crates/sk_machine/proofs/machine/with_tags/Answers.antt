-- A set that has the guesses is as it was, and one that has none is the other.
use Rattle.std.proofs.Common.{sym, ◌∙◌}
use Rattle.sk_machine.proofs.Given.{if_ok}
use Rattle.sk_machine.proofs.Tags.{covered, from_none}
use Rattle.sk_machine.proofs.machine.with_tags.Goals as goal

pub returns-then-covers : goal.returns-then-covers
returns-then-covers c = covered c.args.all c.args.more.now (c.covers.ensures.0 c.if-covers.true)

pub returns-then-is_none : goal.returns-then-is_none
returns-then-is_none c = if_ok c.copy.result c.copy.ensures c.copy.ensures (λ copy same _. from_none c.args.all c.args.more.now copy (sym c.is_none.ensures ∙ c.if-is_none.true) same)
