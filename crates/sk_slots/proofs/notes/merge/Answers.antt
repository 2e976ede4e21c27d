-- A note with the tags of the one before it is left out, and any other stays.
use Rattle.sk_slots.proofs.Names.{take_all, ◌≡◌, ◌<◌, ◌≤◌, [], true, false, length, suc, ◌+◌, take, sym, ◌∙◌, ap, subst}
use Rattle.sk_slots.proofs.Names.{arith, last_tags, merged, same_tags, newest_tags, seen}
use Rattle.sk_slots.proofs.Joins.{IsJoined, front_left, left_out, joined_more, joined_same}
use Rattle.sk_slots.proofs.Undoing.{seen_at, seen_front_tags, seen_length}
use Rattle.sk_slots.proofs.notes.merge.Goals as goal

pub leave_out-requires-clause-can : goal.leave_out-requires-clause-can
leave_out-requires-clause-can g c = (c.requires.0, (c.loop-place.invariant.0 c.requires.0 c.requires.1).0)

pub loop-place-preserved-then-goes_unnoted : goal.loop-place-preserved-then-goes_unnoted
loop-place-preserved-then-goes_unnoted g c =
    let undone = g.I.Inversion.undone in
    let ks = c.loop-place.log.items in
    let i = c.loop-place.place in
    let k = c.index.result.now in
    let lt : i < length ks = omega (arith, c.loop-place-test.true, c.len.ensures, c.loop-place.log.ok.0) in
    let told : same_tags k.tags (newest_tags [] (take i ks)) ≡ true = sym (c.goes_unnoted.ensures ∙ (λ j. same_tags k.tags (newest_tags [] (take i (c.deref.ensures.value j))))) ∙ c.if-goes_unnoted.true in (
      (λ now can.
          let inv = c.loop-place.invariant.0 now can in
          let ns = seen undone now ks in
          let near : i < length ns = omega (arith, lt, seen_length undone now ks) in
          let there = seen_at undone now i ks k lt c.index.ensures in
          let same : same_tags there.0.tags (last_tags [] (take i ns)) ≡ true = (λ j. same_tags (there.1 j) (seen_front_tags undone now [] i ks j)) ∙ told in
          let out = c.leave_out.ensures.seen now inv.0 in (
            c.leave_out.ensures.can now inv.0,
            ap (merged []) out ∙ left_out [] i ns there.0 near there.2 same ∙ inv.1,
            subst (IsJoined []) (sym (ap (take i) out ∙ front_left i ns)) inv.2,
          )),
      omega (arith, c.leave_out.ensures.len, c.loop-place.invariant.1),
      c.leave_out.ensures.capacity ∙ c.loop-place.invariant.2,
    )

pub loop-place-preserved : goal.loop-place-preserved
loop-place-preserved g c =
    let undone = g.I.Inversion.undone in
    let ks = c.loop-place.log.items in
    let i = c.loop-place.place in
    let k = c.index.result.now in
    let lt : i < length ks = omega (arith, c.loop-place-test.true, c.len.ensures, c.loop-place.log.ok.0) in
    let told : same_tags k.tags (newest_tags [] (take i ks)) ≡ false = sym (c.goes_unnoted.ensures ∙ (λ j. same_tags k.tags (newest_tags [] (take i (c.deref.ensures.value j))))) ∙ c.if-goes_unnoted.false in
    let next : suc i ≡ i + 1 = omega arith in (
      (λ now can.
          let inv = c.loop-place.invariant.0 now can in
          let ns = seen undone now ks in
          let near : i < length ns = omega (arith, lt, seen_length undone now ks) in
          let there = seen_at undone now i ks k lt c.index.ensures in
          let other : same_tags there.0.tags (last_tags [] (take i ns)) ≡ false = (λ j. same_tags (there.1 j) (seen_front_tags undone now [] i ks j)) ∙ told in (
            inv.0,
            inv.1,
            subst (λ p. IsJoined [] (take p ns)) next (joined_more [] i ns there.0 near there.2 other inv.2),
          )),
      c.loop-place.invariant.1,
      c.loop-place.invariant.2,
    )

pub returns-clause-seen : goal.returns-clause-seen
returns-clause-seen g c = λ now can.
    let inv = c.loop-place.invariant.0 now can in
    let ns = seen g.I.Inversion.undone now c.loop-place.log.items in
    let far : length ns ≤ c.loop-place.place = omega (arith, c.loop-place-test.false, c.len.ensures, c.loop-place.log.ok.0, seen_length g.I.Inversion.undone now c.loop-place.log.items) in
    sym (joined_same [] ns (subst (IsJoined []) (take_all c.loop-place.place ns far) inv.2)) ∙ inv.1

pub returns-clause-can : goal.returns-clause-can
returns-clause-can g c = λ now can. (c.loop-place.invariant.0 now can).0
