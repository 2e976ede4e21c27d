-- One after the other of those in the set.
use Rattle.sk_guesses.proofs.Names.{ℕ, length, arith, has, without_entity, List}
use Rattle.sk_guesses.specs.Shared.{IsReady, IsRelieved, is_beyond}
use Rattle.sk_guesses.proofs.Named.{first_visited, one_visited, still_rising, unrelieved, relieved_id}
use Rattle.sk_guesses.proofs.Shared.{at_next, all_passed}
use Rattle.sk_guesses.proofs.open_row.relieve_seen.Goals as goal

pub loop-place-init : goal.loop-place-init
loop-place-init g c =
    let f = λ (es : List _). without_entity g.E.Key.order es c.args.entity.now in
    let ts = c.args.tags.now in
    first_visited (IsRelieved c.args.shared.now f (is_beyond ts c.args.own.now)) (λ (h : ℕ). has h ts) (unrelieved c.args.shared.now f ts c.args.own.now) (relieved_id c.args.shared.now f ts c.args.own.now)
    c.args.row.now.items c.next_named-place.result c.next_named-place.ensures.none

pub relieve-requires : goal.relieve-requires
relieve-requires g c = record {
  rising = c.requires.rising;
  ready = at_next c.loop-place.invariant.passed (IsReady (length c.args.shared.now)) c.at_mut.result.now c.requires.ready
      (omega (arith, c.loop-place-test.true, c.len.ensures, c.loop-place.invariant.passed.as_many)) c.at_mut.ensures.value;
}

pub returns : goal.returns
returns g c = all_passed c.loop-place.invariant.passed (omega (arith, c.loop-place-test.false, c.len.ensures, c.loop-place.invariant.passed.as_many))

pub next_named-place-requires-in-loop-place-clause-rising : goal.next_named-place-requires-in-loop-place-clause-rising
next_named-place-requires-in-loop-place-clause-rising g c =
    let f = λ (es : List _). without_entity g.E.Key.order es c.args.entity.now in
    let ts = c.args.tags.now in
    still_rising (IsRelieved c.args.shared.now f (is_beyond ts c.args.own.now)) c.args.row.now.items c.loop-place.row.items c.loop-place.place c.at_mut.result.now c.relieve.new.self
    c.loop-place.invariant c.at_mut.ensures.value (relieved_id c.args.shared.now f ts c.args.own.now c.at_mut.result.now c.relieve.new.self c.relieve.ensures) c.requires.ids

pub loop-place-preserved : goal.loop-place-preserved
loop-place-preserved g c =
    let f = λ (es : List _). without_entity g.E.Key.order es c.args.entity.now in
    let ts = c.args.tags.now in
    one_visited (IsRelieved c.args.shared.now f (is_beyond ts c.args.own.now)) (λ (h : ℕ). has h ts) (unrelieved c.args.shared.now f ts c.args.own.now) (relieved_id c.args.shared.now f ts c.args.own.now)
    c.args.row.now.items c.loop-place.row.items c.loop-place.place c.next_named-place-in-loop-place.result c.at_mut.result.now c.relieve.new.self
    c.loop-place.invariant (omega (arith, c.loop-place-test.true, c.len.ensures, c.loop-place.invariant.passed.as_many)) c.at_mut.ensures.value c.relieve.ensures
    c.next_named-place-in-loop-place.ensures.least c.next_named-place-in-loop-place.ensures.none
