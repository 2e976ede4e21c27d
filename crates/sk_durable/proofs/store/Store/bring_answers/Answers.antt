-- The next answer is told, and taken out.
use Rattle.sk_durable.proofs.Names.{◌≡◌, ◌++◌, ◌∷◌, [], None, Some, refl, rules, subst, err_from_is_err_and, released}
use Rattle.sk_durable.proofs.Names.{said_at, answer_text, channel_at, with_channel, the_view, Kernel}
use Rattle.sk_durable.proofs.Out.{hands_none, next_first, next_of, none_next, not_replied, replied_pasts, taken_out, tells_more, tells_one}
use Rattle.sk_durable.proofs.store.Store.bring_answers.Goals as goal

pub returns-in_default-channel : goal.returns-in_default-channel
returns-in_default-channel c =
    let none : channel_at c.loop-told.self-inside.channels c.args.channel ≡ None = search rules in
    (c.loop-told.invariant.told.0, the_view c.loop-told.self-inside, c.loop-told.invariant.told.1, none, refl)

pub returns-in_err-text : goal.returns-in_err-text
returns-in_err-text c =
    let p = err_from_is_err_and c.from_residual.result c.from_residual.ensures.1 in
    let to = c.in-Some-channel.to.now in
    let old = the_view c.loop-told.self-inside in
    let there : channel_at c.loop-told.self-inside.channels c.args.channel ≡ Some to = search rules in
    let hands = hands_none old
    (the_view (record c.loop-told.self-inside
    { channels = with_channel c.loop-told.self-inside.channels c.args.channel to })) c.args.channel to to
    (there, refl, refl)
    (λ limits past has. has) (refl, refl, refl) in
    rw (p.1, p.2) (c.loop-told.invariant.told.0, old, c.loop-told.invariant.told.1, tt, hands)

pub invariant_of-self-in_err-reply : goal.invariant_of-self-in_err-reply
invariant_of-self-in_err-reply c =
    let there : channel_at c.loop-told.self-inside.channels c.args.channel ≡ Some c.in-Some-channel.to.now =
    search rules in (
      c.loop-told.invariant.empty,
      c.loop-told.invariant.sound,
      replied_pasts c.loop-told.self-inside.limits.requests c.loop-told.self-inside.channels c.args.channel
          c.in-Some-channel.to.now c.reply.new.self c.loop-told.invariant.pasts there c.reply.ensures.most
          c.ticket.result c.as_slice.result.now c.reply.result c.reply.ensures.told,
    )

pub returns-in_err-reply : goal.returns-in_err-reply
returns-in_err-reply c =
    let p = err_from_is_err_and c.from_residual-in_err-reply.result c.from_residual-in_err-reply.ensures.1 in
    let told = c.in-Some.told.now in
    let to = c.in-Some-channel.to.now in
    let old = the_view c.loop-told.self-inside in
    let new =
    the_view (record c.loop-told.self-inside
    { channels = with_channel c.loop-told.self-inside.channels c.args.channel c.reply.new.self }) in
    let there : channel_at c.loop-told.self-inside.channels c.args.channel ≡ Some to = search rules in
    let next : Some told ≡ next_of
    (released (said_at c.loop-told.self-inside.batched.kernel.parts.said c.args.channel)) =
    subst (λ (k : Kernel). Some told ≡ next_of (released (said_at k.parts.said c.args.channel))) c.kernel.ensures
    c.in-Some.ensures in
    let held = not_replied old new c.args.channel to c.reply.new.self (there, refl, c.reply.ensures.most)
    c.loop-told.self-inside.limits.requests (c.loop-told.invariant.pasts c.args.channel to there)
    c.ticket.result c.as_slice.result.now told c.in_err-reply.field-0.0 c.ticket.ensures
    (next_first (said_at c.loop-told.self-inside.batched.kernel.parts.said c.args.channel) told next)
    c.in_err-reply.ensures.told (refl, refl, refl) in
    rw (p.1, p.2) (c.loop-told.invariant.told.0, old, c.loop-told.invariant.told.1, held.0, held.1)

pub loop-told-preserved : goal.loop-told-preserved
loop-told-preserved c =
    let told = c.in-Some.told.now in
    let to = c.in-Some-channel.to.now in
    let inside = c.loop-told.self-inside in
    let old = the_view inside in
    let new =
    the_view (record c.loop-told.self-inside {
      batched = c.released-told.new.self;
      channels =
          with_channel c.loop-told.self-inside.channels c.args.channel c.reply.new.self;
    }) in
    let there : channel_at c.loop-told.self-inside.channels c.args.channel ≡ Some to = search rules in
    let next : Some told ≡ next_of
    (released (said_at c.loop-told.self-inside.batched.kernel.parts.said c.args.channel)) =
    subst (λ (k : Kernel). Some told ≡ next_of (released (said_at k.parts.said c.args.channel))) c.kernel.ensures
    c.in-Some.ensures in
    let text : c.as_slice.result.now ≡ answer_text told.1 = search rules in
    let takes = taken_out c.loop-told.self-inside.batched.kernel.parts c.released-told.new.self.kernel.parts
    c.args.channel told c.released-told.result next c.released-told.ensures.some c.released-told.ensures.held in
    let tells = tells_one old new c.args.channel to c.reply.new.self (there, refl, c.reply.ensures.most) c.ticket.result
    c.as_slice.result.now told c.in_ok-reply.field-0 c.ticket.ensures text
    c.in_ok-reply.ensures.told takes c.released-told.ensures.rest refl refl in
    record {
      empty = c.loop-told.invariant.empty;
      sound = c.loop-told.invariant.sound;
      pasts = replied_pasts c.loop-told.self-inside.limits.requests c.loop-told.self-inside.channels c.args.channel to
          c.reply.new.self c.loop-told.invariant.pasts there c.reply.ensures.most
          c.ticket.result c.as_slice.result.now c.reply.result c.reply.ensures.told;
      told = (
        c.loop-told.invariant.told.0 ++ (told.0, told.1) ∷ [],
        tells_more c.args.channel told.0 told.1 c.args.self.now old new c.loop-told.invariant.told.0
            c.loop-told.invariant.told.1 tells,
      );
    }

pub returns : goal.returns
returns c =
    let none : None ≡ next_of (released (said_at c.loop-told.self-inside.batched.kernel.parts.said c.args.channel)) =
    search rules in (
      c.loop-told.invariant.told.0,
      c.loop-told.invariant.told.1,
      none_next (released (said_at c.loop-told.self-inside.batched.kernel.parts.said c.args.channel)) none,
    )
