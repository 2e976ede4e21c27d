-- One key more is in the lists of all the guesses; without memory all are taken out again.
use Rattle.sk_speculator.proofs.Names.{take_all, ◌∷◌, [], take, refl, sym, ◌∙◌, ap, subst, IsTotalOrder}
use Rattle.sk_speculator.proofs.Names.{IsAntisymmetric, AllAlmostExact, AllExact, tags_by, with_tags, keys_of, opens_of}
use Rattle.sk_speculator.proofs.Names.{last_tags, almost_of, depends_exact, depends_opens, log_at}
use Rattle.sk_speculator.proofs.Writing.{from_ok, from_err, in_front, in_place, keys_more, take_next}
use Rattle.sk_speculator.proofs.lists.depend_few.Goals as goal

pub relieve_written-requires-clause-almost : goal.relieve_written-requires-clause-almost
relieve_written-requires-clause-almost g c =
    let R = g.K.Key.order in
    let total = subst IsTotalOrder g.met.K.Key.same g.met.K.Ord.total in
    let exact = subst IsAntisymmetric g.met.K.Key.same g.met.K.Key.exact in
    let base = tags_by (log_at R c.args.slots.now) in
    let ws = c.args.written.now in
    let i = c.loop-write.write-index in
    subst (AllAlmostExact R base (keys_of ws)) (sym (from_err c.depend.result c.if-is_err.ensures.value c.depend.ensures.err))
    (almost_of total exact c.args.tags.now (keys_of (take i ws)) (keys_of ws) base c.requires.covers (in_front R ws i) c.loop-write.guesses.opens c.loop-write.invariant.2)

pub returns-then-is_err-clause-opens : goal.returns-then-is_err-clause-opens
returns-then-is_err-clause-opens g c =
    c.relieve_written.ensures.opens ∙ ap opens_of (from_err c.depend.result c.if-is_err.ensures.value c.depend.ensures.err) ∙ c.loop-write.invariant.1

pub loop-write-preserved : goal.loop-write-preserved
loop-write-preserved g c =
    let R = g.K.Key.order in
    let total = subst IsTotalOrder g.met.K.Key.same g.met.K.Ord.total in
    let exact = subst IsAntisymmetric g.met.K.Key.same g.met.K.Key.exact in
    let base = tags_by (log_at R c.args.slots.now) in
    let ws = c.args.written.now in
    let i = c.loop-write.write-index in
    let w = c.write-item.result in
    let tags = c.args.tags.now in
    let own = last_tags [] (log_at R c.args.slots.now w.0) in
    let depends = from_ok c.depend.result c.if-is_err.ensures.value c.depend.ensures.ok in
    let here = in_place {R = R} total ws i w c.loop-write-test.true c.write-item.is in (
      c.depend.ensures.view ∙ c.loop-write.invariant.0,
      depends_opens total exact own tags w.0 c.loop-write.guesses.opens c.depend.new.guesses.opens depends ∙ c.loop-write.invariant.1,
      subst (λ ks. AllExact R (with_tags R tags ks base) c.depend.new.guesses.opens) (sym (ap keys_of (take_next ws i w c.loop-write-test.true c.write-item.is) ∙ keys_more (take i ws) (w ∷ [])))
          (depends_exact total exact tags (keys_of (take i ws)) w.0 base own refl (λ n. c.requires.covers w.0 n here) c.loop-write.guesses.opens c.depend.new.guesses.opens depends c.loop-write.invariant.2),
    )

pub returns-clause-ok : goal.returns-clause-ok
returns-clause-ok g c =
    let R = g.K.Key.order in
    subst (λ ws. AllExact R (with_tags R c.args.tags.now (keys_of ws) (tags_by (log_at R c.args.slots.now))) c.loop-write.guesses.opens) (take_all c.loop-write.write-index c.args.written.now c.loop-write-test.false) c.loop-write.invariant.2
