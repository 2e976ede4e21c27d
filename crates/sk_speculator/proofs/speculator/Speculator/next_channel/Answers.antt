-- The outputs tell it.
use Rattle.sk_speculator.proofs.Names.{◌≡◌, [], ap, subst, sym, ◌∙◌, IfSome, said_at, released, Parts}
use Rattle.sk_speculator.proofs.speculator.Speculator.next_channel.Goals as goal

pub returns-clause-some : goal.returns-clause-some
returns-clause-some g c = subst (λ (p : Parts _ _ _). IfSome c.next_channel.result (λ t. released (said_at p.said t) ≡ [] → ⊥)) c.self.view_is c.next_channel.ensures.some

pub returns-clause-none : goal.returns-clause-none
returns-clause-none g c = λ is t. ap (λ (p : Parts _ _ _). released (said_at p.said t)) (sym c.self.view_is) ∙ c.next_channel.ensures.none is t
