-- The channel is as it was.
use Rattle.sk_durable.proofs.Names.{◌≡◌, true, Some, subst, sym, channel_at, IsEmpty, Inside, are_sound, HavePasts}
use Rattle.sk_durable.proofs.Ways.{unchanged}
use Rattle.sk_durable.proofs.store.Store.is_closed.Goals as goal
use Rattle.sk_durable.proofs.store.Store.is_closed.Goals.{in-Some, in-None}

pub invariant_of-self : goal.invariant_of-self
invariant_of-self c =
    elim c.match-channel.branch [
      | in-Some w ↦
          let there : channel_at c.self.inside.channels c.args.channel ≡ Some w.in-Some.channel.now = sym w.in-Some.ensures.value in
          subst (λ (i : Inside). IsEmpty i.step × (are_sound i.limits ≡ true) × HavePasts i.limits.requests i.channels) (sym w.self-inside-is) (
            c.self.invariant.0,
            c.self.invariant.1,
            subst (HavePasts c.self.inside.limits.requests) (sym (unchanged c.self.inside.channels c.args.channel w.in-Some.channel.now there)) c.self.invariant.2,
          )
      | in-None w ↦
          subst (λ (i : Inside). IsEmpty i.step × (are_sound i.limits ≡ true) × HavePasts i.limits.requests i.channels) (sym w.self-inside-is) c.self.invariant
    ]
