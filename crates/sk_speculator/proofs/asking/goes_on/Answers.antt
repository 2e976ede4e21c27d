-- Each key that is written has just these tags.
use Rattle.sk_speculator.proofs.Names.{subst, IsTotalOrder, keys_of}
use Rattle.sk_speculator.proofs.Writing.{rests_within}
use Rattle.sk_speculator.proofs.asking.goes_on.Goals as goal

pub are_within-requires : goal.are_within-requires
are_within-requires g c = λ n.
    let R = g.K.Key.order in
    let total = subst IsTotalOrder g.met.K.Key.same g.met.K.Ord.total in
    rests_within {R = R} total c.args.slots.now c.first_tags-tags.result.now n (keys_of c.as_slice-written.result.now) (c.go_unnoted.ensures.unnoted c.if-not-go_unnoted.false)
