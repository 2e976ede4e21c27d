-- What was brought is handed over.
use Rattle.sk_durable.proofs.Names.{◌≡◌, Some, None, sym, ◌∙◌, ap, refl, take, rules, subst, channel_at}
use Rattle.sk_durable.proofs.Names.{with_channel, the_view, StoreView, BringPost, HandsOver, OutputPost}
use Rattle.sk_durable.proofs.Out.{handed_pasts, hands_over, moved_out, none_brought, there_brought}
use Rattle.sk_durable.proofs.store.Store.output.Goals as goal

pub returns-in_default : goal.returns-in_default
returns-in_default c =
    let none : channel_at c.self.inside.channels c.args.channel ≡ None = search rules in
    let is : the_view c.self.inside ≡ c.args.self.now =
    c.self.view_is
    ∙ none_brought c.args.channel c.bring-brought.result c.args.self.now c.bring-brought.new.self
    c.bring-brought.ensures (ap (λ (s : StoreView). channel_at s.channels c.args.channel) (sym c.self.view_is)
    ∙ none) in
    (ap (λ (s : StoreView). channel_at s.channels c.args.channel) (sym is) ∙ none, is, refl)

pub invariant_of-self-2 : goal.invariant_of-self-2
invariant_of-self-2 c =
    let there : channel_at c.self.inside.channels c.args.channel ≡ Some c.in-Some.to.now = search rules in (
      c.self.invariant.0,
      c.self.invariant.1,
      handed_pasts c.self.inside.limits.requests c.self.inside.channels c.args.channel c.in-Some.to.now
          c.output-count.new.self c.self.invariant.2 there c.output-count.ensures.most
          (take c.output-count.result c.output-count.new.room) c.output-count.ensures.handed,
    )

pub returns : goal.returns
returns c =
    let to = c.in-Some.to.now in
    let old = the_view c.self.inside in
    let new =
    the_view (record c.self.inside
    { channels = with_channel c.self.inside.channels c.args.channel c.output-count.new.self }) in
    let there : channel_at c.self.inside.channels c.args.channel ≡ Some to = search rules in
    let brought : BringPost c.args.channel c.bring-brought.result c.args.self.now old =
    subst (λ s. BringPost c.args.channel c.bring-brought.result c.args.self.now s) (sym c.self.view_is)
    c.bring-brought.ensures in
    let hands : HandsOver c.args.channel c.output-count.result c.args.room.now c.output-count.new.room old new =
    hands_over old new c.args.channel to c.output-count.new.self (there, refl, c.output-count.ensures.most)
    c.output-count.result c.args.room.now c.output-count.new.room
    c.output-count.ensures.handed c.output-count.ensures.count c.output-count.ensures.behind (refl, refl, refl) in
    subst (λ result. OutputPost c.args.channel result c.args.room.now c.output-count.new.room c.args.self.now new)
    (sym c.moved.ensures)
    (moved_out c.args.channel c.output-count.result c.bring-brought.result c.args.room.now c.output-count.new.room c.args.self.now old new
    (there_brought c.args.channel c.bring-brought.result c.args.self.now old to brought there) brought hands)
