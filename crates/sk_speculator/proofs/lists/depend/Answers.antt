-- It is in them already, or is added to all.
use Rattle.sk_speculator.proofs.Names.{[], subst, IsTotalOrder, IsAntisymmetric, last_tags, log_at, depends_all}
use Rattle.sk_speculator.proofs.Names.{depends_none}
use Rattle.sk_speculator.proofs.Writing.{when_ok}
use Rattle.sk_speculator.proofs.lists.depend.Goals as goal

pub returns-then-is_known_to_rest-clause-ok : goal.returns-then-is_known_to_rest-clause-ok
returns-then-is_known_to_rest-clause-ok g c =
    let total = subst IsTotalOrder g.met.K.Key.same g.met.K.Ord.total in
    let exact = subst IsAntisymmetric g.met.K.Key.same g.met.K.Key.exact in
    let own = last_tags [] (log_at g.K.Key.order c.args.slots.now c.args.key.now) in
    depends_none total exact own c.args.tags.now c.args.key.now c.args.guesses.now.opens (c.is_known_to_rest.ensures c.if-is_known_to_rest.true)

pub returns-clause-ok : goal.returns-clause-ok
returns-clause-ok g c =
    let total = subst IsTotalOrder g.met.K.Key.same g.met.K.Ord.total in
    let exact = subst IsAntisymmetric g.met.K.Key.same g.met.K.Key.exact in
    let own = last_tags [] (log_at g.K.Key.order c.args.slots.now c.args.key.now) in
    when_ok c.depend.result c.depend.ensures.ok (λ is. depends_all total exact own c.args.tags.now c.args.key.now c.args.guesses.now.opens c.depend.new.self.opens is)
