-- A guess opens its own number alone, whose token is pushed.
use Rattle.sk_kernel.proofs.Names.{rules, ◌≡◌, input_in}
use Rattle.sk_kernel.proofs.Kept.{draws_hold}
use Rattle.sk_kernel.proofs.holder.Holder.guess.Goals as goal

pub invariant_of-self-2 : goal.invariant_of-self-2
invariant_of-self-2 c =
    let same : c.reserve.new.self.items ≡ c.self.inside.tokens.items = search rules in
    rw (c.push_reserved.ensures.items, same) (draws_hold c.speculate_lent.result c.in_ok-token.token _ c.args.pid (input_in c.args.input) c.self.inside.kernel
    c.speculate_lent.new.self c.self.inside.tokens.items c.trace-sound.ensures.sound c.speculate_lent.ensures c.in_ok-token.was c.self.invariant)
