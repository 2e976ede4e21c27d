-- There are as many outputs as there were, in each channel.
use Rattle.std.proofs.Common.{length, ap, arith, sym}
use Rattle.sk_outputs.proofs.Counted.{counted_lightened}
use Rattle.sk_outputs.proofs.Ready.{as_many}
use Rattle.sk_outputs.proofs.Resting.{above_lightened, commit_leaves}
use Rattle.sk_outputs.proofs.outputs.Outputs.commit.Goals as goal

pub find_ready-requires : goal.find_ready-requires
find_ready-requires g c = omega (arith, ap length c.lighten_all.ensures, as_many c.args.id c.self.inside.said.items, c.self.invariant.1)

pub invariant_of-self : goal.invariant_of-self
invariant_of-self g c = (
  c.find_ready.ensures.ready,
  omega (arith, ap length c.lighten_all.ensures, as_many c.args.id c.self.inside.said.items, c.self.invariant.1, c.find_ready.ensures.places),
  counted_lightened c.args.id c.self.inside.said.items c.lighten_all.new.said.items c.self.inside.counts.items c.lighten_all.ensures c.self.invariant.2,
  above_lightened c.args.id c.self.inside.newest c.self.inside.said.items c.lighten_all.new.said.items c.lighten_all.ensures c.self.invariant.3,
)

pub returns-then-not-may_rest_on : goal.returns-then-not-may_rest_on
returns-then-not-may_rest_on g c = sym (commit_leaves c.args.id _ (c.may_rest_on.ensures c.if-not-may_rest_on.true))
