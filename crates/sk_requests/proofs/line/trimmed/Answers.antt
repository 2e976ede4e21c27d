use Rattle.sk_requests.proofs.Names.{length, sym, ◌∙◌, eqb-true}
use Rattle.sk_requests.proofs.Typed.{without_none, without_some, without_other}
use Rattle.sk_requests.proofs.line.trimmed.Goals as goal

pub returns-then-is_empty : goal.returns-then-is_empty
returns-then-is_empty c = without_none c.args.line.now (eqb-true (length c.args.line.now) 0 (sym c.is_empty.ensures ∙ c.if-is_empty.true))

pub returns-then-line-last-eq13 : goal.returns-then-line-last-eq13
returns-then-line-last-eq13 c = without_some c.args.line.now c.if-line-last-eq13.true

pub returns : goal.returns
returns c = without_other c.args.line.now c.if-line-last-eq13.false
