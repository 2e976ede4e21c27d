-- No token is held, and nothing is written.
use Rattle.sk_held.proofs.Kept.{none_held}
use Rattle.sk_held.proofs.Written.{nothing_long}
use Rattle.sk_held.proofs.held.Held.new.Goals as goal

pub invariant_of-result : goal.invariant_of-result
invariant_of-result c = (
  none_held c.new.result.parts c.new-2.result.items c.args.number c.args.limit.value c.new.ensures.guesses c.new.ensures.opens c.new-2.ensures.items,
  nothing_long c.new-3.result c.new-3.ensures.looked c.new-3.ensures.written,
)
