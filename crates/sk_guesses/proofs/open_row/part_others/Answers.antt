-- One after the other of the span.
use Rattle.sk_guesses.proofs.Names.{length, arith, true}
use Rattle.sk_guesses.specs.Shared.{IsReady, is_named, Agrees}
use Rattle.sk_guesses.proofs.Named.{from_first, to_last, one_more, agreed_id, all_past, rising_so_far}
use Rattle.sk_guesses.proofs.Shared.{at_next}
use Rattle.sk_guesses.proofs.open_row.part_others.Goals as goal

pub loop-place-init : goal.loop-place-init
loop-place-init g c =
    from_first c.args.sharers.oldest c.args.sharers.newest c.args.shared.now (is_named c.args.within c.args.tags.now) true c.args.row.now.items c.requires.sharers
    c.first_from-place.result c.first_from-place.ensures.bound c.first_from-place.ensures.below

pub part_other-requires : goal.part_other-requires
part_other-requires g c = record {
  rising = c.requires.rising;
  ready = at_next c.loop-place.invariant.passed (IsReady (length c.args.shared.now)) c.at_mut.result.now c.requires.ready
      (omega (arith, c.loop-place-test.true, c.len-place-end.ensures)) c.at_mut.ensures.value;
}

pub loop-place-preserved : goal.loop-place-preserved
loop-place-preserved g c =
    let c2 = is_named c.args.within c.args.tags.now in
    let l = c.at_mut.result.now in
    one_more (Agrees c.args.shared.now c2 true) c.args.row.now.items c.loop-place.row.items c.loop-place.place l c.part_other.new.open c.loop-place.invariant
    (omega (arith, c.loop-place-test.true, c.len-place-end.ensures)) c.at_mut.ensures.value c.part_other.ensures
    (agreed_id c.args.shared.now c2 true l c.part_other.new.open c.part_other.ensures)

pub returns-then-is_after : goal.returns-then-is_after
returns-then-is_after g c =
    let c2 = is_named c.args.within c.args.tags.now in
    let os = c.args.row.now.items in
    let ls = c.loop-place.row.items in
    let rises = rising_so_far (Agrees c.args.shared.now c2 true) os ls c.loop-place.place c.loop-place.invariant c.requires.ids in
    to_last c.args.sharers.oldest c.args.sharers.newest c.args.shared.now c2 true os c.requires.sharers ls c.loop-place.place c.loop-place.invariant
    (all_past ls c.loop-place.place c.args.sharers.newest c.at.result.now rises c.at.ensures (c.is_after.ensures c.if-is_after.true))

pub returns : goal.returns
returns g c =
    to_last c.args.sharers.oldest c.args.sharers.newest c.args.shared.now (is_named c.args.within c.args.tags.now) true c.args.row.now.items c.requires.sharers
    c.loop-place.row.items c.loop-place.place c.loop-place.invariant
    (λ k d low lt. absurd (omega (arith, low, lt, c.loop-place-test.false, c.len-place-end.ensures, c.loop-place.invariant.passed.as_many)))
