-- Numbers and tags stay.
use Rattle.sk_guesses.proofs.Names.{◌∙◌, ap, map, arith, Kept, not_resting, opens_of}
use Rattle.sk_guesses.proofs.Kept.{kept_same}
use Rattle.sk_guesses.proofs.Listed.{taken_first}
use Rattle.sk_guesses.proofs.Opens.{guess_of, taken_opens}
use Rattle.sk_guesses.proofs.open_guesses.OpenGuesses.take_dependents.Goals as goal

pub invariant_of-self : goal.invariant_of-self
invariant_of-self g c =
    kept_same c.self.invariant c.take_list.new.opens.items
    (ap opens_of c.take_list.ensures.opens ∙ taken_opens c.args.id (map guess_of c.self.inside.opens.items)) (omega (arith, c.take_list.ensures.as_many))

pub returns-clause-resting : goal.returns-clause-resting
returns-clause-resting g c =
    ap (not_resting c.args.id) c.take_list.ensures.opens ∙ taken_first c.args.id (map guess_of c.self.inside.opens.items) c.self.invariant.0.own
    ∙ ap (λ (r : Kept _). not_resting c.args.id r.opens) c.self.view_is

pub take_list-requires : goal.take_list-requires
take_list-requires g c = c.self.invariant.0.rising
