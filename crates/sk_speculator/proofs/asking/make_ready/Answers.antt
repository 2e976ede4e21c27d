-- What is seen of the slots is as before, and so are the lists where there is no memory.
use Rattle.sk_speculator.proofs.Names.{[], sym, ◌∙◌, ap, subst, IsTotalOrder, IsAntisymmetric, tags_by, exact_as, has}
use Rattle.sk_speculator.proofs.Names.{last_tags, log_at, goes_unnoted}
use Rattle.sk_speculator.proofs.asking.make_ready.Goals as goal

pub depend_all-requires-clause-exact : goal.depend_all-requires-clause-exact
depend_all-requires-clause-exact g c =
    let R = g.K.Key.order in
    let total = subst IsTotalOrder g.met.K.Key.same g.met.K.Ord.total in
    let exact = subst IsAntisymmetric g.met.K.Key.same g.met.K.Key.exact in
    exact_as total exact (tags_by (log_at R c.args.slots.now)) (tags_by (log_at R c.prepare_all.new.slots)) (λ k. ap (last_tags []) (sym (c.prepare_all.ensures.log k))) c.args.guesses.now.opens c.requires.exact

pub depend_all-requires-clause-covers : goal.depend_all-requires-clause-covers
depend_all-requires-clause-covers g c = λ k n here rests.
    c.requires.covers k n here (ap (λ log. has n (last_tags [] log)) (sym (c.prepare_all.ensures.log k)) ∙ rests)

pub depend_all-requires-clause-same : goal.depend_all-requires-clause-same
depend_all-requires-clause-same g c = λ same q here.
    ap (goes_unnoted c.args.tags.now) (c.prepare_all.ensures.log q) ∙ c.in_ok-same.ensures.same same q here
