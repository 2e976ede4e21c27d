-- The queue is cut, and the places turn.
use Rattle.sk_durable.proofs.Names.{Ok, subst, sym, the_view, CutPost}
use Rattle.sk_batches.specs.Calls as queued
use Rattle.sk_durable.proofs.Out.{cuts}
use Rattle.sk_durable.proofs.store.Store.cut.Goals as goal

pub returns-in_ok-turn : goal.returns-in_ok-turn
returns-in_ok-turn c =
    let old = the_view c.self.inside in
    let new = the_view (record c.self.inside { batched = c.cut.new.self; places = c.turn.new.self }) in
    let told =
    subst (λ made. queued.CutPost made (Ok c.in_ok-cut.field-0) c.self.inside.batched.queue c.cut.new.self.queue)
    c.if-made-2.true c.in_ok-cut.ensures.told in
    let post : CutPost c.args.made (Ok tt) old new = subst (λ made. CutPost made (Ok tt) old new) (sym c.if-made-2.true)
    (cuts old c.cut.new.self c.turn.new.self c.in_ok-cut.field-0 c.in_ok-turn.field-0 told c.in_ok-cut.ensures.rest
    c.in_ok-turn.ensures) in
    subst (λ s. CutPost c.args.made (Ok tt) s new) c.self.view_is post
