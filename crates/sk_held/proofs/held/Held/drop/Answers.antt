-- The newest token is taken.
use Rattle.sk_held.proofs.Deciding.{last_holds, last_met}
use Rattle.sk_held.proofs.held.Held.drop.Goals as goal

pub loop-token-preserved : goal.loop-token-preserved
loop-token-preserved c =
    last_holds c.loop-token.kernel c.loop-token.tokens.items c.pop.new.self.items c.in-Some.token c.loop-token.invariant c.in-Some.ensures.items c.fail.result c.in-Ok.field-0 c.fail.new.self c.fail.ensures c.in-Ok.is

pub unreachable-requires : goal.unreachable-requires
unreachable-requires c =
    last_met c.loop-token.kernel c.loop-token.tokens.items c.pop.new.self.items c.in-Some.token c.loop-token.invariant c.in-Some.ensures.items c.fail.result c.in-Err._stranger c.fail.new.self c.fail.ensures c.in-Err.is
