-- One after the other of those in the set.
use Rattle.sk_guesses.proofs.Names.{◌≡◌, ◌<◌, ℕ, true, false, arith, has, with_entity, List}
use Rattle.sk_guesses.specs.Shared.{Sharing, IsChanged}
use Rattle.sk_guesses.proofs.Named.{first_visited, one_visited, still_rising, unchanged, changed_id}
use Rattle.sk_guesses.proofs.Shared.{at_next, all_passed}
use Rattle.sk_guesses.proofs.open_row.depend_own.Goals as goal

pub loop-place-init : goal.loop-place-init
loop-place-init g c =
    let f = λ (es : List _). with_entity g.E.Key.order es c.args.entity.now in
    let c2 = λ (h : ℕ). has h c.args.tags.now in
    first_visited (IsChanged f c2) c2 (unchanged f c2) (changed_id f c2) c.args.row.now.items c.next_named-place.result c.next_named-place.ensures.none

pub depend-requires : goal.depend-requires
depend-requires g c =
    at_next c.loop-place.invariant.passed (λ (o : Sharing _). o.shares ≡ false → has o.guess.id c.args.tags.now ≡ true → 0 < o.room)
    c.at_mut.result.now c.requires.room (omega (arith, c.loop-place-test.true, c.len.ensures, c.loop-place.invariant.passed.as_many)) c.at_mut.ensures.value

pub returns : goal.returns
returns g c = all_passed c.loop-place.invariant.passed (omega (arith, c.loop-place-test.false, c.len.ensures, c.loop-place.invariant.passed.as_many))

pub next_named-place-requires-in-loop-place-clause-rising : goal.next_named-place-requires-in-loop-place-clause-rising
next_named-place-requires-in-loop-place-clause-rising g c =
    let f = λ (es : List _). with_entity g.E.Key.order es c.args.entity.now in
    let c2 = λ (h : ℕ). has h c.args.tags.now in
    still_rising (IsChanged f c2) c.args.row.now.items c.loop-place.row.items c.loop-place.place c.at_mut.result.now c.depend.new.self
    c.loop-place.invariant c.at_mut.ensures.value ((changed_id f c2) c.at_mut.result.now c.depend.new.self c.depend.ensures) c.requires.ids

pub loop-place-preserved : goal.loop-place-preserved
loop-place-preserved g c =
    let f = λ (es : List _). with_entity g.E.Key.order es c.args.entity.now in
    let c2 = λ (h : ℕ). has h c.args.tags.now in
    one_visited (IsChanged f c2) c2 (unchanged f c2) (changed_id f c2) c.args.row.now.items c.loop-place.row.items c.loop-place.place c.next_named-place-in-loop-place.result c.at_mut.result.now c.depend.new.self
    c.loop-place.invariant (omega (arith, c.loop-place-test.true, c.len.ensures, c.loop-place.invariant.passed.as_many)) c.at_mut.ensures.value c.depend.ensures
    c.next_named-place-in-loop-place.ensures.least c.next_named-place-in-loop-place.ensures.none
