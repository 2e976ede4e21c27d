-- There are no more outputs than there were.
use Rattle.sk_outputs.proofs.Names.{length, ap, arith, subst, sym, AreCounted}
use Rattle.sk_outputs.proofs.Ready.{fewer}
use Rattle.sk_outputs.proofs.Resting.{above_left, failure_leaves}
use Rattle.sk_outputs.proofs.outputs.Outputs.drop_of.Goals as goal

pub find_ready-requires : goal.find_ready-requires
find_ready-requires g c = omega (arith, ap length c.drop_resting.ensures, fewer c.args.id c.self.inside.said.items, c.self.invariant.1)

pub invariant_of-self : goal.invariant_of-self
invariant_of-self g c = (
  c.find_ready.ensures.ready,
  omega (arith, ap length c.drop_resting.ensures, fewer c.args.id c.self.inside.said.items, c.self.invariant.1, c.find_ready.ensures.places),
  subst (λ zs. AreCounted zs c.count_without.new.counts.items) (sym c.drop_resting.ensures) c.count_without.ensures,
  above_left c.args.id c.self.inside.newest c.self.inside.said.items c.drop_resting.new.said.items c.drop_resting.ensures c.self.invariant.3,
)

pub returns-then-not-may_rest_on : goal.returns-then-not-may_rest_on
returns-then-not-may_rest_on g c = sym (failure_leaves c.args.id _ (c.may_rest_on.ensures c.if-not-may_rest_on.true))
