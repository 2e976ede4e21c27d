-- One key more is in the lists of its guesses alone.
use Rattle.sk_speculator.proofs.Names.{drop_all, ◌+◌, drop, sym, ◌∙◌, ap, subst, IsTotalOrder, IsAntisymmetric}
use Rattle.sk_speculator.proofs.Names.{AllAlmostExact, tags_by, keys_of, left_to, opens_of, left_more, none_left}
use Rattle.sk_speculator.proofs.Names.{left_to_keeps, same_opens, log_at}
use Rattle.sk_speculator.proofs.Writing.{drop_next}
use Rattle.sk_speculator.proofs.lists.relieve_written.Goals as goal

pub loop-write-preserved : goal.loop-write-preserved
loop-write-preserved g c =
    let R = g.K.Key.order in
    let total = subst IsTotalOrder g.met.K.Key.same g.met.K.Ord.total in
    let exact = subst IsAntisymmetric g.met.K.Key.same g.met.K.Key.exact in
    let base = tags_by (log_at R c.args.slots.now) in
    let ws = c.args.written.now in
    let i = c.loop-write.write-index in
    let w = c.write-item.result in
    let os = c.loop-write.guesses.opens in
    let almost = subst (λ xs. AllAlmostExact R base (keys_of xs) os) (drop_next ws i w c.loop-write-test.true c.write-item.is) c.loop-write.invariant.2 in (
      c.leave_to.ensures.view ∙ c.loop-write.invariant.0,
      ap opens_of c.leave_to.ensures.opens ∙ same_opens (left_to R c.tags_of.result.now w.0) (left_to_keeps R c.tags_of.result.now w.0) os ∙ c.loop-write.invariant.1,
      subst (AllAlmostExact R base (keys_of (drop (i + 1) ws))) (sym c.leave_to.ensures.opens) (left_more total exact base w.0 (keys_of (drop (i + 1) ws)) c.tags_of.result.now c.tags_of.ensures os almost),
    )

pub returns-clause-exact : goal.returns-clause-exact
returns-clause-exact g c =
    let R = g.K.Key.order in
    let total = subst IsTotalOrder g.met.K.Key.same g.met.K.Ord.total in
    let exact = subst IsAntisymmetric g.met.K.Key.same g.met.K.Key.exact in
    let base = tags_by (log_at R c.args.slots.now) in
    none_left total exact base c.loop-write.guesses.opens
    (subst (λ xs. AllAlmostExact R base (keys_of xs) c.loop-write.guesses.opens) (drop_all c.loop-write.write-index c.args.written.now c.loop-write-test.false) c.loop-write.invariant.2)
