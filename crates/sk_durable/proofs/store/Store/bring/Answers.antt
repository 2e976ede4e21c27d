-- The tickets before the first answer that waits are told that nothing was done.
use Rattle.sk_durable.proofs.Names.{◌≡◌, None, Some, sym, ◌∙◌, ap, refl, rules, subst, unwrap_or, err_from_is_err_and}
use Rattle.sk_durable.proofs.Names.{channel_at, with_channel, the_view, bound, first_answer, option_map, Serves}
use Rattle.sk_durable.proofs.Names.{tells, HasNoneReady}
use Rattle.sk_durable.proofs.Out.{bound_is, not_refused, refused_pasts, refuses_one}
use Rattle.sk_durable.proofs.store.Store.bring.Goals as goal

pub returns-in_default : goal.returns-in_default
returns-in_default c =
    let told = c.in_ok-bring_answers.ensures in
    let none : channel_at c.self.inside.channels c.args.channel ≡ None = search rules in (
      told.0,
      the_view c.self.inside,
      subst (λ s. Serves c.args.self.now (tells c.args.channel told.0) s) (sym c.self.view_is) told.1,
      none,
      refl,
    )

pub invariant_of-self-in_err-refuse_up_to : goal.invariant_of-self-in_err-refuse_up_to
invariant_of-self-in_err-refuse_up_to c =
    let there : channel_at c.self.inside.channels c.args.channel ≡ Some c.in-Some.to.now = search rules in (
      c.self.invariant.0,
      c.self.invariant.1,
      refused_pasts c.self.inside.limits.requests c.self.inside.channels c.args.channel c.in-Some.to.now
          c.refuse_up_to.new.self c.self.invariant.2 there c.refuse_up_to.ensures.most
          c.unwrap_or.result c.refuse_up_to.result c.refuse_up_to.ensures.told,
    )

pub invariant_of-self-2 : goal.invariant_of-self-2
invariant_of-self-2 c =
    let there : channel_at c.self.inside.channels c.args.channel ≡ Some c.in-Some.to.now = search rules in (
      c.self.invariant.0,
      c.self.invariant.1,
      refused_pasts c.self.inside.limits.requests c.self.inside.channels c.args.channel c.in-Some.to.now
          c.refuse_up_to.new.self c.self.invariant.2 there c.refuse_up_to.ensures.most
          c.unwrap_or.result c.refuse_up_to.result c.refuse_up_to.ensures.told,
    )

pub returns-in_err-refuse_up_to : goal.returns-in_err-refuse_up_to
returns-in_err-refuse_up_to c =
    let p =
    err_from_is_err_and c.from_residual-in_err-refuse_up_to.result c.from_residual-in_err-refuse_up_to.ensures.1 in
    let told = c.in_ok-bring_answers.ensures in
    let to = c.in-Some.to.now in
    let old = the_view c.self.inside in
    let new =
    the_view (record c.self.inside
    { channels = with_channel c.self.inside.channels c.args.channel c.refuse_up_to.new.self }) in
    let there : channel_at c.self.inside.channels c.args.channel ≡ Some to = search rules in
    let first : c.first_ticket-first.result ≡ option_map (λ told. told.0) (first_answer old c.args.channel) = search rules in
    let ticket : c.unwrap_or.result ≡ unwrap_or c.first_ticket-first.result to.inlet.next = search rules in
    let is : c.unwrap_or.result ≡ bound to (first_answer old c.args.channel) =
    ticket ∙ ap (λ o. unwrap_or o to.inlet.next) first ∙ bound_is to (first_answer old c.args.channel) in
    let held = not_refused old new c.args.channel to c.refuse_up_to.new.self (there, refl, c.refuse_up_to.ensures.most)
    c.self.inside.limits.requests (c.self.invariant.2 c.args.channel to there)
    c.unwrap_or.result c.in_err-refuse_up_to.field-0.0 is c.in_err-refuse_up_to.ensures.told (refl, refl, refl) in
    rw (p.1, p.2) (
      told.0,
      old,
      subst (λ s. Serves c.args.self.now (tells c.args.channel told.0) s) (sym c.self.view_is) told.1,
      held.0,
      held.1,
    )

pub returns : goal.returns
returns c =
    let told = c.in_ok-bring_answers.ensures in
    let to = c.in-Some.to.now in
    let old = the_view c.self.inside in
    let new =
    the_view (record c.self.inside
    { channels = with_channel c.self.inside.channels c.args.channel c.refuse_up_to.new.self }) in
    let there : channel_at c.self.inside.channels c.args.channel ≡ Some to = search rules in
    let first : c.first_ticket-first.result ≡ option_map (λ told. told.0) (first_answer old c.args.channel) = search rules in
    let ticket : c.unwrap_or.result ≡ unwrap_or c.first_ticket-first.result to.inlet.next = search rules in
    let is : c.unwrap_or.result ≡ bound to (first_answer old c.args.channel) =
    ticket ∙ ap (λ o. unwrap_or o to.inlet.next) first ∙ bound_is to (first_answer old c.args.channel) in (
      told.0,
      old,
      c.unwrap_or.result,
      subst (λ s. Serves c.args.self.now (tells c.args.channel told.0) s) (sym c.self.view_is) told.1,
      subst (λ s. HasNoneReady c.args.channel s) (sym c.self.view_is) told.2,
      refuses_one old new c.args.channel to c.refuse_up_to.new.self (there, refl, c.refuse_up_to.ensures.most)
          c.unwrap_or.result c.in_ok-refuse_up_to.field-0 is c.in_ok-refuse_up_to.ensures.told (refl, refl, refl),
    )
