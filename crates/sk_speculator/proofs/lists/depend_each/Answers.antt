-- One key more is in the lists of all the guesses; without memory those before it are.
use Rattle.sk_speculator.proofs.Names.{take_all, [], take, refl, sym, ◌∙◌, ap, subst, IsTotalOrder}
use Rattle.sk_speculator.proofs.Names.{IsAntisymmetric, AllAlmostExact, AllExact, tags_by, with_tags, opens_of}
use Rattle.sk_speculator.proofs.Names.{last_tags, almost_of, depends_exact, depends_opens, log_at}
use Rattle.sk_speculator.proofs.Writing.{always_err, among_first, among_them, take_next}
use Rattle.sk_speculator.proofs.lists.depend_each.Goals as goal

pub loop-key-preserved : goal.loop-key-preserved
loop-key-preserved g c =
    let R = g.K.Key.order in
    let total = subst IsTotalOrder g.met.K.Key.same g.met.K.Ord.total in
    let exact = subst IsAntisymmetric g.met.K.Key.same g.met.K.Key.exact in
    let base = tags_by (log_at R c.args.slots.now) in
    let ks = c.args.keys.now in
    let i = c.loop-key.key-index in
    let k = c.key-item.result in
    let tags = c.args.tags.now in
    let own = last_tags [] (log_at R c.args.slots.now k) in
    let depends = c.in_ok-depend.ensures.ok in
    let here = among_them {R = R} total ks i k c.loop-key-test.true c.key-item.is in (
      c.depend.ensures.view ∙ c.loop-key.invariant.0,
      depends_opens total exact own tags k c.loop-key.guesses.opens c.depend.new.guesses.opens depends ∙ c.loop-key.invariant.1,
      subst (λ xs. AllExact R (with_tags R tags xs base) c.depend.new.guesses.opens) (sym (take_next ks i k c.loop-key-test.true c.key-item.is))
          (depends_exact total exact tags (take i ks) k base own refl (λ n. c.requires.covers k n here) c.loop-key.guesses.opens c.depend.new.guesses.opens depends c.loop-key.invariant.2),
    )

pub returns-clause-ok : goal.returns-clause-ok
returns-clause-ok g c =
    let R = g.K.Key.order in
    subst (λ ks. AllExact R (with_tags R c.args.tags.now ks (tags_by (log_at R c.args.slots.now))) c.loop-key.guesses.opens) (take_all c.loop-key.key-index c.args.keys.now c.loop-key-test.false) c.loop-key.invariant.2

pub returns-in_err-depend-clause-opens : goal.returns-in_err-depend-clause-opens
returns-in_err-depend-clause-opens g c = ap opens_of c.in_err-depend.ensures.err ∙ c.loop-key.invariant.1

pub returns-in_err-depend-clause-err : goal.returns-in_err-depend-clause-err
returns-in_err-depend-clause-err g c =
    let R = g.K.Key.order in
    let total = subst IsTotalOrder g.met.K.Key.same g.met.K.Ord.total in
    let exact = subst IsAntisymmetric g.met.K.Key.same g.met.K.Key.exact in
    let base = tags_by (log_at R c.args.slots.now) in
    let ks = c.args.keys.now in
    let i = c.loop-key.key-index in
    always_err c.from_residual.result
    (subst (AllAlmostExact R base ks) (sym c.in_err-depend.ensures.err)
    (almost_of total exact c.args.tags.now (take i ks) ks base c.requires.covers (among_first R ks i) c.loop-key.guesses.opens c.loop-key.invariant.2))
