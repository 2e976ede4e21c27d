-- The oldest token is taken.
use Rattle.std.proofs.Common.{rules, ◌<◌, length}
use Rattle.sk_batched.proofs.Queues.{left_after, left_own, left_undecided}
use Rattle.sk_batched.proofs.batched.Batched.drop.Goals as goal

pub commit-requires-clause-own : goal.commit-requires-clause-own
commit-requires-clause-own g c =
    let some : 0 < length c.loop-kernel.tokens.items = search rules in
    left_own c.loop-kernel.kernel.parts c.loop-kernel.tokens.items c.remove.new.self.items c.remove.result c.loop-kernel.invariant some c.remove.ensures.value c.remove.ensures.items

pub commit-requires-clause-undecided : goal.commit-requires-clause-undecided
commit-requires-clause-undecided g c =
    let some : 0 < length c.loop-kernel.tokens.items = search rules in
    left_undecided c.loop-kernel.kernel.parts c.loop-kernel.tokens.items c.remove.new.self.items c.remove.result c.loop-kernel.invariant some c.remove.ensures.value c.remove.ensures.items

pub loop-kernel-preserved : goal.loop-kernel-preserved
loop-kernel-preserved g c =
    let some : 0 < length c.loop-kernel.tokens.items = search rules in
    left_after c.loop-kernel.kernel.parts c.loop-kernel.tokens.items c.remove.new.self.items c.remove.result c.commit.new.kernel.parts c.loop-kernel.invariant some c.remove.ensures.value c.remove.ensures.items
    c.commit.ensures
