-- Numbers and tags stay.
use Rattle.sk_guesses.proofs.Names.{◌∙◌, ap, map, relieved_beyond, Kept}
use Rattle.sk_guesses.proofs.Opens.{relieved_beyond_keeps}
use Rattle.sk_guesses.proofs.Kept.{kept_mapped}
use Rattle.sk_guesses.proofs.open_guesses.OpenGuesses.relieve_beyond.Goals as goal

pub invariant_of-self : goal.invariant_of-self
invariant_of-self g c =
    let R = g.E.Key.order in
    let e = c.args.entity.now in
    kept_mapped c.self.invariant c.relieve_beyond.new.opens.items (relieved_beyond R c.args.tags.now c.args.own.now e) (relieved_beyond_keeps R c.args.tags.now c.args.own.now e) c.relieve_beyond.ensures.opens

pub returns-clause-opens : goal.returns-clause-opens
returns-clause-opens g c =
    c.relieve_beyond.ensures.opens
    ∙ ap (λ (r : Kept _). map (relieved_beyond g.E.Key.order c.args.tags.now c.args.own.now c.args.entity.now) r.opens) c.self.view_is

pub relieve_beyond-requires : goal.relieve_beyond-requires
relieve_beyond-requires g c = c.self.invariant.0.rising
