-- Nothing has happened.
use Rattle.sk_speculator.proofs.Names.{◌<◌, sym, ap, subst, IsTotalOrder, IsAntisymmetric, AllExact, tags_by, KeptView}
use Rattle.sk_speculator.proofs.Names.{opens_of, log_at, Parts}
use Rattle.sk_speculator.proofs.Afterwards.{whole_first}
use Rattle.sk_speculator.proofs.speculator.Speculator.new.Goals as goal

pub invariant_of-result : goal.invariant_of-result
invariant_of-result g c =
    let R = g.K.Key.order in
    let total = subst IsTotalOrder g.met.K.Key.same g.met.K.Ord.total in
    let exact = subst IsAntisymmetric g.met.K.Key.same g.met.K.Key.exact in
    let a : Parts _ _ _ = record { slots = c.new.result; guesses = c.new-2.result.view; opens = opens_of c.new-2.result.opens; said = c.new-3.result.said } in (
      c.new-5.ensures,
      record {
        settled = c.new.ensures.settled;
        exact = subst (AllExact R (tags_by (log_at R a.slots))) (sym c.new-2.ensures.opens) tt;
        whole = whole_first total exact a c.args.number c.get.result c.new.ensures.look c.new.ensures.log (ap opens_of c.new-2.ensures.opens) c.new-2.ensures.view c.new-3.ensures;
      },
    )

pub returns-clause-some : goal.returns-clause-some
returns-clause-some g c = subst (λ (v : KeptView). 0 < v.limit) (sym c.new-2.ensures.view) c.get.ensures.nonzero
