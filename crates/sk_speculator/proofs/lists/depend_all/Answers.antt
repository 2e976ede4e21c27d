-- The keys by their order are just those that are written.
use Rattle.sk_speculator.proofs.Names.{sym, ◌∙◌, ap, cond, subst, IsTotalOrder, IsAntisymmetric, tags_by, with_tags, exact_as}
use Rattle.sk_speculator.proofs.Names.{is_in, keys_of, log_at}
use Rattle.sk_speculator.proofs.Writing.{almost_as, from_err, from_ok, tags_same}
use Rattle.sk_speculator.proofs.lists.depend_all.Goals as goal

pub returns-then-same-clause-ok : goal.returns-then-same-clause-ok
returns-then-same-clause-ok g c =
    let R = g.K.Key.order in
    let total = subst IsTotalOrder g.met.K.Key.same g.met.K.Ord.total in
    let exact = subst IsAntisymmetric g.met.K.Key.same g.met.K.Key.exact in
    let logs = log_at R c.args.slots.now in
    let tags = c.args.tags.now in
    let ks = keys_of c.args.written.now in
    exact_as total exact (tags_by logs) (with_tags R tags ks (tags_by logs)) (tags_same R logs tags ks (c.requires.same c.if-same.true))
    c.args.guesses.now.opens c.requires.exact

pub depend_each-requires-clause-covers : goal.depend_each-requires-clause-covers
depend_each-requires-clause-covers g c = λ k n here.
    let same = ap (λ ks. is_in g.K.Key.order ks k) c.as_slice.ensures.value ∙ c.in_ok-keys.ensures.keys k in
    c.requires.covers k n (sym same ∙ here)

pub relieve_written-requires-clause-almost : goal.relieve_written-requires-clause-almost
relieve_written-requires-clause-almost g c =
    let R = g.K.Key.order in
    almost_as R (tags_by (log_at R c.args.slots.now)) c.as_slice.result.now (keys_of c.args.written.now)
    (λ k. ap (λ ks. is_in R ks k) c.as_slice.ensures.value ∙ c.in_ok-keys.ensures.keys k)
    c.depend_each.new.guesses.opens (from_err c.depend_each.result c.if-is_err.ensures.value c.depend_each.ensures.err)

pub returns-clause-ok : goal.returns-clause-ok
returns-clause-ok g c =
    let R = g.K.Key.order in
    let total = subst IsTotalOrder g.met.K.Key.same g.met.K.Ord.total in
    let exact = subst IsAntisymmetric g.met.K.Key.same g.met.K.Key.exact in
    let base = tags_by (log_at R c.args.slots.now) in
    let tags = c.args.tags.now in
    let keys = c.as_slice.result.now in
    exact_as total exact (with_tags R tags keys base) (with_tags R tags (keys_of c.args.written.now) base)
    (λ k. ap (λ b. cond b tags (base k)) (ap (λ ks. is_in R ks k) c.as_slice.ensures.value ∙ c.in_ok-keys.ensures.keys k))
    c.depend_each.new.guesses.opens (from_ok c.depend_each.result c.if-is_err.ensures.value c.depend_each.ensures.ok)
