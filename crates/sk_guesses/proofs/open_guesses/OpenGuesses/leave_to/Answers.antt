-- Numbers and tags stay.
use Rattle.sk_guesses.proofs.Names.{◌∙◌, ap, map, left_to, Kept}
use Rattle.sk_guesses.proofs.Opens.{left_to_keeps}
use Rattle.sk_guesses.proofs.Kept.{kept_mapped}
use Rattle.sk_guesses.proofs.open_guesses.OpenGuesses.leave_to.Goals as goal

pub invariant_of-self : goal.invariant_of-self
invariant_of-self g c =
    let R = g.E.Key.order in
    let e = c.args.entity.now in
    kept_mapped c.self.invariant c.leave_to.new.opens.items (left_to R c.args.tags.now e) (left_to_keeps R c.args.tags.now e) c.leave_to.ensures.opens

pub returns-clause-opens : goal.returns-clause-opens
returns-clause-opens g c =
    c.leave_to.ensures.opens
    ∙ ap (λ (r : Kept _). map (left_to g.E.Key.order c.args.tags.now c.args.entity.now) r.opens) c.self.view_is

pub leave_to-requires : goal.leave_to-requires
leave_to-requires g c = c.self.invariant.0.rising
