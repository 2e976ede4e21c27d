-- The token says what its guess is.
use Rattle.sk_speculator.proofs.Names.{Ok, ◌∙◌, ap, subst, FailsIn, TookBack, Parts}
use Rattle.sk_speculator.proofs.Afterwards.{back_spent, sound_redeemed, struck_spent, undecided_spent}
use Rattle.sk_speculator.proofs.speculator.Speculator.fail.Goals as goal

pub invariant_of-self : goal.invariant_of-self
invariant_of-self g c =
    (c.self.invariant.0, sound_redeemed c.self.invariant.1 c.redeem.ensures.opens c.redeem.ensures.statuses)

pub invariant_of-self-in-Struck : goal.invariant_of-self-in-Struck
invariant_of-self-in-Struck g c =
    (c.self.invariant.0, sound_redeemed c.self.invariant.1 c.redeem.ensures.opens c.redeem.ensures.statuses)

pub fail_open-requires : goal.fail_open-requires
fail_open-requires g c =
    let e = c.redeem.ensures in
    (undecided_spent c.args.guess e.result e.view e.opens c.self.view_is (c.in-Ok.is ∙ ap Ok c.in-Undecided.is)).1

pub returns-in-Undecided : goal.returns-in-Undecided
returns-in-Undecided g c =
    let R = g.K.Key.order in
    let e = c.redeem.ensures in
    let at = undecided_spent c.args.guess e.result e.view e.opens c.self.view_is (c.in-Ok.is ∙ ap Ok c.in-Undecided.is) in
    let new = c.fail_open.new.self in
    let told = c.fail_open.ensures in (
      at.0,
      subst (λ n. TookBack R c.args.self.now n c.fail_open.result) at.3
          (subst (λ (p : Parts _ _ _). TookBack R p c.in-Undecided.id c.fail_open.result) at.2 told.back),
      subst (λ n. FailsIn R c.args.self.now n new) at.3
          (subst (λ (p : Parts _ _ _). FailsIn R p c.in-Undecided.id new) at.2 told.fails),
    )

pub returns-in-Struck : goal.returns-in-Struck
returns-in-Struck g c =
    let e = c.redeem.ensures in
    struck_spent c.args.guess e.result e.view e.opens c.self.view_is g.K.Key.order (c.in-Ok.is ∙ ap Ok c.in-Struck.is)

pub returns-in-Err : goal.returns-in-Err
returns-in-Err g c =
    let e = c.redeem.ensures in back_spent c.args.guess e.result e.view e.opens c.self.view_is c.in-Err.is
