-- Each slot is settled.
use Rattle.sk_speculator.proofs.Names.{refl, sym, ◌∙◌, ap, found, log_at, look_at, Parts}
use Rattle.sk_speculator.proofs.Found.{no_notes, no_value, something}
use Rattle.sk_speculator.proofs.speculator.Speculator.keys.Goals as goal

pub returns-clause-present : goal.returns-clause-present
returns-clause-present g c = λ k out.
    let R = g.K.Key.order in
    ap (λ (p : Parts _ _ _). look_at R p.slots k) (sym c.self.view_is) ∙ no_value (found R c.self.inside.slots k) (sym (c.keys.ensures.all k) ∙ out)

pub returns-clause-noted : goal.returns-clause-noted
returns-clause-noted g c = λ k out.
    let R = g.K.Key.order in
    ap (λ (p : Parts _ _ _). log_at R p.slots k) (sym c.self.view_is) ∙ no_notes (found R c.self.inside.slots k) (sym (c.keys.ensures.all k) ∙ out)

pub returns-clause-some : goal.returns-clause-some
returns-clause-some g c = λ k here value log.
    let R = g.K.Key.order in
    something (found R c.self.inside.slots k) (sym (c.keys.ensures.all k) ∙ here) (λ s is. c.self.invariant.1.settled k s is refl)
    (ap (λ (p : Parts _ _ _). look_at R p.slots k) c.self.view_is ∙ value) (ap (λ (p : Parts _ _ _). log_at R p.slots k) c.self.view_is ∙ log)
