-- One after the other of those in the set.
use Rattle.sk_guesses.proofs.Names.{arith, has, refl, ℕ}
use Rattle.sk_guesses.specs.Shared.{IsPlaced, IsRoomier, IsReady}
use Rattle.sk_guesses.proofs.Named.{first_visited, one_visited, still_rising, unplaced, placed_id}
use Rattle.sk_guesses.proofs.Shared.{at_next, all_passed, stopped, weaker_pairs}
use Rattle.sk_guesses.proofs.open_row.reserve_own.Goals as goal

pub loop-place-init : goal.loop-place-init
loop-place-init g c =
    let c2 = λ (h : ℕ). has h c.args.tags.now in
    let n = c.args.shared in
    first_visited (IsPlaced c2 n) c2 (unplaced c2 n) (placed_id c2 n) c.args.row.now.items c.next_named-place.result c.next_named-place.ensures.none

pub reserve-requires : goal.reserve-requires
reserve-requires g c = record {
  places = c.requires.places;
  empty = λ is.
      (at_next c.loop-place.invariant.passed (IsReady c.args.shared) c.at_mut.result.now c.requires.ready
      (omega (arith, c.loop-place-test.true, c.len.ensures, c.loop-place.invariant.passed.as_many)) c.at_mut.ensures.value is).0;
}

pub returns-in_err-reserve-clause-same : goal.returns-in_err-reserve-clause-same
returns-in_err-reserve-clause-same g c =
    stopped c.loop-place.invariant.passed (IsRoomier c.args.shared) c.at_mut.result.now c.reserve.new.self (λ x y is. is.same)
    (λ x. record { guess = refl; shares = refl; ready = λ r. r })
    (omega (arith, c.loop-place-test.true, c.len.ensures, c.loop-place.invariant.passed.as_many)) c.at_mut.ensures.value c.reserve.ensures.same

pub returns-clause-same : goal.returns-clause-same
returns-clause-same g c =
    weaker_pairs (IsPlaced (λ h. has h c.args.tags.now) c.args.shared) (IsRoomier c.args.shared) _ _ (λ x y is. is.same)
    (all_passed c.loop-place.invariant.passed (omega (arith, c.loop-place-test.false, c.len.ensures, c.loop-place.invariant.passed.as_many)))

pub returns-clause-ok : goal.returns-clause-ok
returns-clause-ok g c = all_passed c.loop-place.invariant.passed (omega (arith, c.loop-place-test.false, c.len.ensures, c.loop-place.invariant.passed.as_many))

pub next_named-place-requires-in-loop-place-clause-rising : goal.next_named-place-requires-in-loop-place-clause-rising
next_named-place-requires-in-loop-place-clause-rising g c =
    let c2 = λ (h : ℕ). has h c.args.tags.now in
    let n = c.args.shared in
    still_rising (IsPlaced c2 n) c.args.row.now.items c.loop-place.row.items c.loop-place.place c.at_mut.result.now c.reserve.new.self
    c.loop-place.invariant c.at_mut.ensures.value ((placed_id c2 n) c.at_mut.result.now c.reserve.new.self (record { same = c.reserve.ensures.same; place = c.in_ok-reserve.ensures.room })) c.requires.ids

pub loop-place-preserved : goal.loop-place-preserved
loop-place-preserved g c =
    let c2 = λ (h : ℕ). has h c.args.tags.now in
    let n = c.args.shared in
    one_visited (IsPlaced c2 n) c2 (unplaced c2 n) (placed_id c2 n) c.args.row.now.items c.loop-place.row.items c.loop-place.place c.next_named-place-in-loop-place.result c.at_mut.result.now c.reserve.new.self
    c.loop-place.invariant (omega (arith, c.loop-place-test.true, c.len.ensures, c.loop-place.invariant.passed.as_many)) c.at_mut.ensures.value (record { same = c.reserve.ensures.same; place = c.in_ok-reserve.ensures.room })
    c.next_named-place-in-loop-place.ensures.least c.next_named-place-in-loop-place.ensures.none
