-- A guess is failed by the token at its place.
use Rattle.sk_kernel.proofs.Decided.{fail_met, fail_holds, fail_decides}
use Rattle.sk_kernel.proofs.holder.Holder.fail.Goals as goal

pub unreachable-requires : goal.unreachable-requires
unreachable-requires c =
    fail_met c.self.inside.kernel c.self.inside.tokens.items c.take_token-token.new.tokens.items _ c.self.view_is c.take_token-token.result c.in_ok-place.place c.args.id c.self.invariant
    c.trace-sound.ensures.sound c.in_ok-place.ensures.there c.take_token-token.ensures.value c.take_token-token.ensures.items c.fail_speculation.result
    c.in-Err._refusal c.fail_speculation.new.self c.fail_speculation.ensures c.in-Err.is

pub invariant_of-self : goal.invariant_of-self
invariant_of-self c =
    fail_holds c.self.inside.kernel c.self.inside.tokens.items c.take_token-token.new.tokens.items _ c.self.view_is c.take_token-token.result c.in_ok-place.place c.args.id c.self.invariant
    c.trace-sound.ensures.sound c.in_ok-place.ensures.there c.take_token-token.ensures.value c.take_token-token.ensures.items c.fail_speculation.result
    c.in-Ok.outcome c.fail_speculation.new.self c.fail_speculation.ensures c.in-Ok.is

pub returns : goal.returns
returns c =
    fail_decides c.self.inside.kernel c.self.inside.tokens.items c.take_token-token.new.tokens.items _ c.self.view_is c.take_token-token.result c.in_ok-place.place c.args.id c.self.invariant
    c.trace-sound.ensures.sound c.in_ok-place.ensures.there c.take_token-token.ensures.value c.take_token-token.ensures.items c.fail_speculation.result
    c.in-Ok.outcome c.fail_speculation.new.self c.fail_speculation.ensures c.in-Ok.is
