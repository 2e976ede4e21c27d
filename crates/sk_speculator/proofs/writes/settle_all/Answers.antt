-- One key more is settled.
use Rattle.sk_speculator.proofs.Names.{drop_all, ◌+◌, drop, ◌∙◌, subst, keys_of, SettledBut}
use Rattle.sk_speculator.proofs.Writing.{drop_next}
use Rattle.sk_speculator.proofs.writes.settle_all.Goals as goal

pub loop-write-preserved : goal.loop-write-preserved
loop-write-preserved g c =
    let R = g.K.Key.order in
    let i = c.loop-write.write-index in
    let w = c.write-item.result in
    let ws = c.args.written.now in (
      λ q. c.settle.ensures.look q ∙ c.loop-write.invariant.0 q,
      λ q. c.settle.ensures.log q ∙ c.loop-write.invariant.1 q,
      λ before. c.settle.ensures.settled (keys_of (drop (i + 1) ws)) (subst (λ xs. SettledBut R (keys_of xs) c.loop-write.slots) (drop_next ws i w c.loop-write-test.true c.write-item.is) (c.loop-write.invariant.2 before)),
    )

pub returns-clause-settled : goal.returns-clause-settled
returns-clause-settled g c = λ before.
    subst (λ xs. SettledBut g.K.Key.order (keys_of xs) c.loop-write.slots) (drop_all c.loop-write.write-index c.args.written.now c.loop-write-test.false) (c.loop-write.invariant.2 before)
