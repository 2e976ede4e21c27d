-- What is left to look at has the answer.
use Rattle.sk_client.proofs.Names.{true, false, ◌∙◌, sym, refl, ap, drop_all, kept_for}
use Rattle.sk_client.proofs.Desks.{kept_at}
use Rattle.sk_client.proofs.desk.kept_for.Goals as goal

pub loop-one-init : goal.loop-one-init
loop-one-init c = refl

pub returns-then-eq : goal.returns-then-eq
returns-then-eq c =
    sym (kept_at c.args.pid c.loop-one.one-index c.args.kept.now c.one-item.result true c.loop-one-test.true c.one-item.is (sym c.eq.ensures ∙ c.if-eq.true)) ∙ c.loop-one.invariant

pub loop-one-preserved : goal.loop-one-preserved
loop-one-preserved c =
    sym (kept_at c.args.pid c.loop-one.one-index c.args.kept.now c.one-item.result false c.loop-one-test.true c.one-item.is (sym c.eq.ensures ∙ c.if-eq.false)) ∙ c.loop-one.invariant

pub returns : goal.returns
returns c = sym (ap (kept_for c.args.pid) (drop_all c.loop-one.one-index c.args.kept.now c.loop-one-test.false)) ∙ c.loop-one.invariant
