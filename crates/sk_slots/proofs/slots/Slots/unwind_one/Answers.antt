-- What is settled but for one key is settled once that is.
use Rattle.sk_slots.proofs.Names.{[], ◌∷◌, refl, ◌∙◌, subst, IsTotalOrder, eq_by_cmp_equiv, or_left}
use Rattle.sk_slots.proofs.slots.Slots.unwind_one.Goals as goal

pub returns-then-unwind_at-clause-settled : goal.returns-then-unwind_at-clause-settled
returns-then-unwind_at-clause-settled g c = λ settled.
    c.unwind_at.ensures.done c.if-unwind_at.true [] (λ q s here _. settled q s here refl)

pub returns-clause-look : goal.returns-clause-look
returns-clause-look g c = λ q. c.settle.ensures.look q ∙ c.unwind_at.ensures.look q

pub returns-clause-log : goal.returns-clause-log
returns-clause-log g c = λ q. c.settle.ensures.log q ∙ c.unwind_at.ensures.log q

pub returns-clause-settled : goal.returns-clause-settled
returns-clause-settled g c = λ settled.
    let k = c.args.key.now in
    let total = subst IsTotalOrder g.met.K.Key.same g.met.K.Ord.total in
    c.settle.ensures.settled []
    (c.unwind_at.ensures.settled (k ∷ []) (or_left _ _ ((eq_by_cmp_equiv total).refl k)) (λ q s here _. settled q s here refl))
