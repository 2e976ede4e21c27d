-- What the host told is carried out, and told to its channel, whatever its past was.
use Rattle.sk_durable.proofs.Names.{◌≡◌, ◌∙◌, ap, false, rules, subst, sym, Ok, Some, channel_at, with_channel}
use Rattle.sk_durable.proofs.Names.{the_view, told_work, has_refused, TellPost, StoreView, CarryPost}
use Rattle.sk_durable.proofs.Calls.{all_told, posed_there, told_past, was_done}
use Rattle.sk_durable.proofs.Ways.{lent_pasts}
use Rattle.sk_durable.proofs.store.Store.tell.Goals as goal

pub invariant_of-self : goal.invariant_of-self
invariant_of-self c =
    let s = c.self-2.inside in
    let there : channel_at s.channels c.args.channel ≡ Some c.in-Some.to.now = sym c.in-Some.ensures.value in (
      c.self-2.invariant.0,
      c.self-2.invariant.1,
      lent_pasts s.limits.requests c.args.channel c.in-Some.to.now c.tell.new.self s.channels c.self-2.invariant.2 there
          (told_past s.limits.requests c.in-Some.to.now c.tell.new.self c.tell.ensures.served
          (c.self-2.invariant.2 c.args.channel c.in-Some.to.now there)),
    )

pub returns : goal.returns
returns c =
    let a = c.args.self.now in
    let m = c.carry_out-done.new.self in
    let t = c.args.channel in
    let to = c.in-Some.to.now in
    let told = c.tell.new.self in
    let ticket = c.in_ok-ticket.ticket in
    let same : the_view c.self-2.inside ≡ record a { batched = m.batched } = c.self-2.view_is ∙ c.carry_out-done.ensures.rest in
    let there : channel_at a.channels t ≡ Some to =
    ap (λ (s : StoreView). channel_at s.channels t) (sym same) ∙ sym c.in-Some.ensures.value in
    let none : has_refused a ≡ false = search rules in
    let carries : CarryPost false (record { channel = t; ticket = ticket }) (told_work c.args.reply.now) c.carry_out-done.result a.batched m.batched =
    subst (λ w. CarryPost false (record { channel = t; ticket = ticket }) w c.carry_out-done.result a.batched m.batched) c.in_ok-work.ensures.work
    c.carry_out-done.ensures.post in
    let done = was_done false (record { channel = t; ticket = ticket }) (told_work c.args.reply.now) c.carry_out-done.result a.batched m.batched
    (sym c.if-is_err.false ∙ c.is_err.ensures.value) carries in
    subst (λ (s : StoreView). TellPost t c.args.reply.now (Ok tt) a s)
    (sym (ap (λ (s : StoreView). record s { channels = with_channel s.channels t told }) same))
    (all_told t c.args.reply.now a m to told ticket done.0 none there (posed_there t ticket a to c.in_ok-ticket.ensures there) done.1
    c.tell.ensures.served c.tell.ensures.idle c.tell.ensures.most)
