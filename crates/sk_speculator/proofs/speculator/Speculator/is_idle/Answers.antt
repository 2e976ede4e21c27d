-- There are as many as are undecided.
use Rattle.sk_speculator.proofs.Names.{sym, ◌∙◌, ap, eqb-true, opens_of, Parts}
use Rattle.std.proofs.lemmas.List.{nil_from_length}
use Rattle.sk_speculator.proofs.speculator.Speculator.is_idle.Goals as goal

pub returns : goal.returns
returns g c is =
    ap (λ (p : Parts _ _ _). p.opens) (sym c.self.view_is)
    ∙ ap opens_of (nil_from_length c.self.inside.guesses.opens (sym c.undecided.ensures.opens ∙ eqb-true c.undecided.result 0 is))
