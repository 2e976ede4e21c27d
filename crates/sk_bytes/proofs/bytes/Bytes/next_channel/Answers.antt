-- The kernel inside tells it.
use Rattle.sk_bytes.proofs.Names.{◌≡◌, [], ap, subst, sym, ◌∙◌, IfSome, said_at, released, ByteView}
use Rattle.sk_bytes.proofs.bytes.Bytes.next_channel.Goals as goal

pub returns-clause-some : goal.returns-clause-some
returns-clause-some g c =
    subst (λ (b : ByteView _ _). IfSome c.next_channel.result (λ t. released (said_at b.parts.said t) ≡ [] → ⊥)) c.self.view_is
    c.next_channel.ensures.some

pub returns-clause-none : goal.returns-clause-none
returns-clause-none g c =
    λ is t. ap (λ (b : ByteView _ _). released (said_at b.parts.said t)) (sym c.self.view_is) ∙ c.next_channel.ensures.none is t
