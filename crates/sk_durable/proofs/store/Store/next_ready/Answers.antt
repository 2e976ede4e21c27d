-- A channel with an answer is connected, or was hung up and is let go of.
use Rattle.sk_durable.proofs.Names.{◌≡◌, ◌<◌, ℕ, [], length, Some, refl, sym, ◌∙◌, ap, inr, subst, rules, released}
use Rattle.sk_durable.proofs.Names.{said_at, Channels, channel_at, with_channel, the_view, Kernel, StoreView}
use Rattle.sk_durable.proofs.Names.{HasNoneReady, Sweeps}
use Rattle.sk_durable.proofs.Fewer.{falls}
use Rattle.sk_durable.proofs.Out.{let_go_sweeps, ready_on, sweeps_on}
use Rattle.sk_durable.proofs.Ways.{now_there, unchanged}
use Rattle.sk_durable.proofs.store.Store.next_ready.Goals as goal

pub returns-in-Some-channel : goal.returns-in-Some-channel
returns-in-Some-channel c =
    let t = c.in-Some.channel in
    let to = c.in-Some-channel._connected.now in
    let there : channel_at c.self.inside.channels c.in-Some.channel ≡ Some c.in-Some-channel._connected.now =
    search rules in
    let same : the_view (record c.self.inside
    { channels = with_channel c.self.inside.channels c.in-Some.channel c.in-Some-channel._connected.now })
    ≡ c.loop-channel.self =
    ap (λ (table : Channels). the_view (record c.self.inside { channels = table }))
    (unchanged c.self.inside.channels t to there) ∙ c.self.view_is in
    let some = subst (λ (k : Kernel). released (said_at k.parts.said c.in-Some.channel) ≡ [] → ⊥) c.kernel.ensures
    c.in-Some.ensures.some in (
      subst (λ s. Sweeps c.args.self.now s) (sym same) c.loop-channel.invariant,
      (to, now_there c.self.inside.channels t to there to, inr some),
    )

pub loop-channel-smaller : goal.loop-channel-smaller
loop-channel-smaller c =
    let some = subst (λ (k : Kernel). released (said_at k.parts.said c.in-Some.channel) ≡ [] → ⊥) c.kernel.ensures
    c.in-Some.ensures.some in
    let fewer = falls c.in-Some.channel (the_view c.self.inside) c.let_go.new.self c.let_go.ensures some in
    subst (λ (s : StoreView). length c.let_go.new.self.batched.kernel.parts.said < length s.batched.kernel.parts.said)
    c.self.view_is fewer

pub loop-channel-preserved : goal.loop-channel-preserved
loop-channel-preserved c =
    let start : Sweeps c.args.self.now (the_view c.self.inside) =
    subst (λ s. Sweeps c.args.self.now s) (sym c.self.view_is) c.loop-channel.invariant in
    sweeps_on c.args.self.now (the_view c.self.inside) c.let_go.new.self start
    (let_go_sweeps c.in-Some.channel (the_view c.self.inside) c.let_go.new.self c.let_go.ensures)

pub returns : goal.returns
returns c =
    let none : (t : ℕ) → HasNoneReady t (the_view c.self.inside) =
    λ t. subst (λ (k : Kernel). released (said_at k.parts.said t) ≡ []) c.kernel.ensures
    (c.in_default.ensures.none refl t) in
    ready_on c.next_refused.result c.args.self.now c.loop-channel.self c.next_refused.new.self c.loop-channel.invariant
    (λ t. subst (λ (s : StoreView). HasNoneReady t s) c.self.view_is (none t)) c.next_refused.ensures
