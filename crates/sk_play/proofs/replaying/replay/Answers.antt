-- One event more happens, or is the first that does not; at the end all have happened.
use Rattle.sk_play.proofs.Names.{rules, ◌≡◌, ◌+◌, take, get_or, sym, ◌∙◌, refl, subst, take_more, take_all, Replays}
use Rattle.sk_play.proofs.Names.{told_by}
use Rattle.sk_play.proofs.Replayed.{replays_more, stops_at, leaves}
use Rattle.sk_play.proofs.replaying.replay.Goals as goal

pub returns-then-ne : goal.returns-then-ne
returns-then-ne c =
    let es = c.args.events.now in
    let e = c.index-events-place.result in
    let answered = c.in_ok-answer.ensures.told in
    let apart : c.in_ok-answer.answer ≡ c.told_by.result → ⊥ = search rules in
    let other : c.in_ok-answer.answer ≡ told_by e → ⊥ = λ is. apart (is ∙ sym c.told_by.ensures) in
    stops_at es c.loop-place.place (c.loop-place.place + 1) e c.in_ok-answer.answer _ _ _ _ c.call_again.new.session.holder.kernel c.loop-place-test.true c.index-events-place.is refl c.loop-place.invariant answered other

pub loop-place-preserved : goal.loop-place-preserved
loop-place-preserved c =
    let es = c.args.events.now in
    let i = c.loop-place.place in
    let e = c.index-events-place.result in
    let answered = c.in_ok-answer.ensures.told in
    let same : c.in_ok-answer.answer ≡ c.told_by.result = search rules in
    let more =
    replays_more (take i es) e c.in_ok-answer.answer c.args.session.now.holder.held c.loop-place.session.holder.held c.args.session.now.holder.kernel c.loop-place.session.holder.kernel c.call_again.new.session.holder.kernel
    c.loop-place.invariant (same ∙ c.told_by.ensures) answered in
    let item : get_or es i e ≡ e = sym c.index-events-place.is in
    rw (take_more es i e c.loop-place-test.true, item, c.in_ok-answer.ensures.held) more

pub returns : goal.returns
returns c =
    let all = subst (λ es. Replays es c.args.session.now.holder.held c.args.session.now.holder.kernel c.loop-place.session.holder.held c.loop-place.session.holder.kernel) (take_all c.loop-place.place c.args.events.now c.loop-place-test.false) c.loop-place.invariant in
    (all, leaves c.args.events.now _ _ c.args.session.now.holder.kernel c.loop-place.session.holder.kernel all)
