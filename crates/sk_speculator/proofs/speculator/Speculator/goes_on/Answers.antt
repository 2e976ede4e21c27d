-- Where no guess is undecided nothing that was looked at depends on any.
use Rattle.sk_speculator.proofs.Names.{◌∙◌, ap, subst, IsTotalOrder, IsAntisymmetric, keys_of, opens_of, GoesOn, Parts}
use Rattle.sk_speculator.proofs.Taking.{idle_rests}
use Rattle.sk_speculator.proofs.speculator.Speculator.goes_on.Goals as goal

pub goes_on-requires-clause-idle : goal.goes_on-requires-clause-idle
goes_on-requires-clause-idle g c = λ is n.
    let total = subst IsTotalOrder g.met.K.Key.same g.met.K.Ord.total in
    let exact = subst IsAntisymmetric g.met.K.Key.same g.met.K.Key.exact in
    let a : Parts _ _ _ = record { slots = c.self.inside.slots; guesses = c.self.inside.guesses.view; opens = opens_of c.self.inside.guesses.opens; said = c.self.inside.said.said } in
    idle_rests total exact a c.self.inside.guesses.opens c.self.invariant.1 (ap (λ (p : Parts _ _ _). p.opens) c.self.view_is ∙ c.is_idle-idle.ensures is) c.args.step.now.looked.items n

pub returns-clause-goes : goal.returns-clause-goes
returns-clause-goes g c = λ is.
    subst (λ (p : Parts _ _ _). GoesOn g.K.Key.order p.slots c.args.step.now.looked.items (keys_of c.args.step.now.written.items)) c.self.view_is
    (c.goes_on.ensures is)
