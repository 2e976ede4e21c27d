-- The token says what its guess is.
use Rattle.sk_speculator.proofs.Names.{Ok, ◌∙◌, ap, subst, Commits, Parts}
use Rattle.sk_speculator.proofs.Afterwards.{back_spent, sound_redeemed, struck_spent, undecided_spent}
use Rattle.sk_speculator.proofs.speculator.Speculator.commit.Goals as goal

pub invariant_of-self : goal.invariant_of-self
invariant_of-self g c =
    (c.self.invariant.0, sound_redeemed c.self.invariant.1 c.redeem.ensures.opens c.redeem.ensures.statuses)

pub invariant_of-self-in-Struck : goal.invariant_of-self-in-Struck
invariant_of-self-in-Struck g c =
    (c.self.invariant.0, sound_redeemed c.self.invariant.1 c.redeem.ensures.opens c.redeem.ensures.statuses)

pub commit_open-requires : goal.commit_open-requires
commit_open-requires g c =
    let e = c.redeem.ensures in
    (undecided_spent c.args.guess e.result e.view e.opens c.self.view_is (c.in-Ok.is ∙ ap Ok c.in-Undecided.is)).1

pub returns-in-Undecided : goal.returns-in-Undecided
returns-in-Undecided g c =
    let R = g.K.Key.order in
    let e = c.redeem.ensures in
    let at = undecided_spent c.args.guess e.result e.view e.opens c.self.view_is (c.in-Ok.is ∙ ap Ok c.in-Undecided.is) in
    let new = c.commit_open.new.self in (
      at.0,
      subst (λ n. Commits R c.args.self.now n new) at.3
          (subst (λ (p : Parts _ _ _). Commits R p c.in-Undecided.id new) at.2 c.commit_open.ensures),
    )

pub returns-in-Struck : goal.returns-in-Struck
returns-in-Struck g c =
    let e = c.redeem.ensures in
    struck_spent c.args.guess e.result e.view e.opens c.self.view_is g.K.Key.order (c.in-Ok.is ∙ ap Ok c.in-Struck.is)

pub returns-in-Err : goal.returns-in-Err
returns-in-Err g c =
    let e = c.redeem.ensures in back_spent c.args.guess e.result e.view e.opens c.self.view_is c.in-Err.is
