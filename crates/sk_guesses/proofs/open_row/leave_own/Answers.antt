-- One after the other of those in the set.
use Rattle.sk_guesses.proofs.Names.{arith, without_entity, List}
use Rattle.sk_guesses.specs.Shared.{IsChanged, is_named}
use Rattle.sk_guesses.proofs.Named.{first_visited, one_visited, still_rising, unchanged, changed_id}
use Rattle.sk_guesses.proofs.Shared.{all_passed}
use Rattle.sk_guesses.proofs.open_row.leave_own.Goals as goal

pub loop-place-init : goal.loop-place-init
loop-place-init g c =
    let f = λ (es : List _). without_entity g.E.Key.order es c.args.entity.now in
    let c2 = is_named c.args.within c.args.tags.now in
    first_visited (IsChanged f c2) c2 (unchanged f c2) (changed_id f c2) c.args.row.now.items c.next_named-place.result c.next_named-place.ensures.none

pub returns : goal.returns
returns g c = all_passed c.loop-place.invariant.passed (omega (arith, c.loop-place-test.false, c.len.ensures, c.loop-place.invariant.passed.as_many))

pub next_named-place-requires-in-loop-place-clause-rising : goal.next_named-place-requires-in-loop-place-clause-rising
next_named-place-requires-in-loop-place-clause-rising g c =
    let f = λ (es : List _). without_entity g.E.Key.order es c.args.entity.now in
    let c2 = is_named c.args.within c.args.tags.now in
    still_rising (IsChanged f c2) c.args.row.now.items c.loop-place.row.items c.loop-place.place c.at_mut.result.now c.leave.new.self
    c.loop-place.invariant c.at_mut.ensures.value ((changed_id f c2) c.at_mut.result.now c.leave.new.self c.leave.ensures) c.requires

pub loop-place-preserved : goal.loop-place-preserved
loop-place-preserved g c =
    let f = λ (es : List _). without_entity g.E.Key.order es c.args.entity.now in
    let c2 = is_named c.args.within c.args.tags.now in
    one_visited (IsChanged f c2) c2 (unchanged f c2) (changed_id f c2) c.args.row.now.items c.loop-place.row.items c.loop-place.place c.next_named-place-in-loop-place.result c.at_mut.result.now c.leave.new.self
    c.loop-place.invariant (omega (arith, c.loop-place-test.true, c.len.ensures, c.loop-place.invariant.passed.as_many)) c.at_mut.ensures.value c.leave.ensures
    c.next_named-place-in-loop-place.ensures.least c.next_named-place-in-loop-place.ensures.none
