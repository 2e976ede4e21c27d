-- The channel has no past.
use Rattle.sk_durable.proofs.Names.{Ok, refl, subst, ConnectPost, StoreView}
use Rattle.sk_durable.proofs.Ways.{connected_past}
use Rattle.sk_durable.proofs.store.Store.connect.Goals as goal

pub invariant_of-self-2 : goal.invariant_of-self-2
invariant_of-self-2 c = (
  c.self.invariant.0,
  c.self.invariant.1,
  connected_past c.self.inside.limits.requests c.new-channel.result c.in_ok-connect.field-0 c.self.inside.channels c.connect.new.self
      c.new-channel.ensures.served c.in_ok-connect.ensures.2 c.in_ok-connect.ensures.3 c.self.invariant.2,
)

pub returns : goal.returns
returns c =
    let left : StoreView = record { limits = c.self.inside.limits; batched = c.self.inside.batched; channels = c.connect.new.self; places = c.self.inside.places; ahead = c.self.inside.ahead } in
    subst (λ (a : StoreView). ConnectPost (Ok c.in_ok-connect.field-0) a left) c.self.view_is
    (c.new-channel.result, c.new-channel.ensures.served, c.new-channel.ensures.most, c.in_ok-connect.ensures, (refl, refl, refl))
