-- One event after the other, by what is left of them.
use Rattle.sk_client.proofs.Names.{◌≡◌, ℕ, ◌+◌, ◌<◌, List, ◌∷◌, drop, get_or, length, Result, Ok, Err, inl, inr, refl}
use Rattle.sk_client.proofs.Names.{sym, ◌∙◌, ap, subst, drop_more, drop_all, WorldEvent, WorldStop, RunsTo}
use Rattle.sk_client.proofs.world.World.run.Goals as goal

left : (es : List WorldEvent) (i : ℕ) (e : WorldEvent) → i < length es → e ≡ get_or es i e → drop i es ≡ e ∷ drop (i + 1) es
left es i e lt is = drop_more es i e lt ∙ ap (λ (x : WorldEvent). x ∷ drop (i + 1) es) (sym is)

pub loop-place-init : goal.loop-place-init
loop-place-init c = λ result new runs. runs

pub returns-in-Err : goal.returns-in-Err
returns-in-Err c =
    let stop : Result (Unit {0}) WorldStop = Err (record { at = c.loop-place.place + 1; cause = c.in-Err.cause }) in
    c.loop-place.invariant stop c.event.new.self
    (subst (λ (es : List WorldEvent). RunsTo stop c.loop-place.self es (c.loop-place.place + 1) c.event.new.self)
    (sym (left c.args.events.now c.loop-place.place c.index-events-place.result c.loop-place-test.true c.index-events-place.is))
    (inr (c.in-Err.cause, c.in-Err.ensures, refl)))

pub loop-place-preserved : goal.loop-place-preserved
loop-place-preserved c = λ result new runs.
    c.loop-place.invariant result new
    (subst (λ (es : List WorldEvent). RunsTo result c.loop-place.self es (c.loop-place.place + 1) new)
    (sym (left c.args.events.now c.loop-place.place c.index-events-place.result c.loop-place-test.true c.index-events-place.is))
    (inl (c.in_default.field-0, c.event.new.self, c.in_default.ensures, runs)))

pub returns : goal.returns
returns c =
    c.loop-place.invariant (Ok tt) c.loop-place.self
    (subst (λ (es : List WorldEvent). RunsTo (Ok tt) c.loop-place.self es (c.loop-place.place + 1) c.loop-place.self)
    (sym (drop_all c.loop-place.place c.args.events.now c.loop-place-test.false))
    (refl, refl))
