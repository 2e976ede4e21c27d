-- The oldest is let go of, where it is decided.
use Rattle.sk_batches.proofs.Names.{◌≡◌, Some, ◌∙◌, ap, rules, arith, sum_by, decided}
use Rattle.sk_batches.proofs.Lists.{size, is_left, there_is, left_size}
use Rattle.sk_batches.proofs.queue.Queue.next_decided.Goals as goal

pub remove-requires : goal.remove-requires
remove-requires c =
    let is : decided c.self.inside.batches.items ≡ Some c.in_ok-decision.decision = search rules in
    let some = there_is c.self.inside.batches.items c.in_ok-decision.decision is in
    omega (arith, some)

pub invariant_of-self : goal.invariant_of-self
invariant_of-self c =
    let is : decided c.self.inside.batches.items ≡ Some c.in_ok-decision.decision = search rules in
    let less = left_size c.self.inside.batches.items in
    let now = ap (sum_by size) (c.remove.ensures.items ∙ is_left c.self.inside.batches.items c.in_ok-decision.decision is) in
    omega (arith, less, now, c.self.invariant)
