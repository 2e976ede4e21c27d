-- A note that depends on the guess alone is left out, and any other stays without it.
use Rattle.sk_slots.proofs.Names.{take_all, ◌≡◌, ◌<◌, ◌≤◌, ◌+◌, [], not, length, suc, take, sym, ◌∙◌, ap}
use Rattle.sk_slots.proofs.Names.{subst, arith, slice_set, without, committed, seen, is_empty}
use Rattle.sk_slots.proofs.Joins.{AllFree, free_same, front_left, without_twice}
use Rattle.sk_slots.proofs.Undoing.{bare_out, lighter, more_free, no_tags, seen_length, set_length, some_tags}
use Rattle.sk_slots.proofs.notes.lighten.Goals as goal

pub leave_out-requires-clause-place : goal.leave_out-requires-clause-place
leave_out-requires-clause-place g c =
    let ks = c.loop-place.log.items in
    let long = set_length ks c.loop-place.place c.without.new.self in
    omega (arith, c.loop-place-test.true, c.len.ensures, c.loop-place.log.ok.0, long)

pub leave_out-requires-clause-can : goal.leave_out-requires-clause-can
leave_out-requires-clause-can g c =
    let ks = c.loop-place.log.items in
    let i = c.loop-place.place in
    let lt : i < length ks = omega (arith, c.loop-place-test.true, c.len.ensures, c.loop-place.log.ok.0) in
    let inv = c.loop-place.invariant.0 c.requires.0 c.requires.1 in
    (c.requires.0, (lighter g.I.Inversion.undone g.I.Inversion.fits c.args.id c.requires.0 i ks c.index_mut.result.now c.without.new.self lt c.index_mut.ensures.value c.without.ensures.note inv.0).0)

pub loop-place-preserved-then-without : goal.loop-place-preserved-then-without
loop-place-preserved-then-without g c =
    let id = c.args.id in
    let undone = g.I.Inversion.undone in
    let ks = c.loop-place.log.items in
    let i = c.loop-place.place in
    let n = c.index_mut.result.now in
    let one = c.without.new.self in
    let lt : i < length ks = omega (arith, c.loop-place-test.true, c.len.ensures, c.loop-place.log.ok.0) in
    let own : one.tags ≡ without id n.tags = ap (λ k. k.tags) c.without.ensures.note in
    let free : without id one.tags ≡ one.tags = ap (without id) own ∙ without_twice id n.tags ∙ sym own in
    let some = some_tags one.tags (ap (λ ts. not (is_empty ts)) own ∙ sym c.without.ensures.left ∙ c.if-without.true) in
    let next : suc i ≡ i + 1 = omega arith in (
      (λ now can.
          let inv = c.loop-place.invariant.0 now can in
          let l = lighter undone g.I.Inversion.fits id now i ks n one lt c.index_mut.ensures.value c.without.ensures.note inv.0 in (
            l.0,
            l.1 ∙ inv.1,
            subst (λ k. AllFree id (take k (seen undone now (slice_set ks i one)))) next (more_free undone id now i ks one lt free some (subst (AllFree id) (sym l.2) inv.2)),
          )),
      c.loop-place.invariant.1,
      c.loop-place.invariant.2,
    )

pub loop-place-preserved : goal.loop-place-preserved
loop-place-preserved g c =
    let id = c.args.id in
    let undone = g.I.Inversion.undone in
    let ks = c.loop-place.log.items in
    let i = c.loop-place.place in
    let n = c.index_mut.result.now in
    let one = c.without.new.self in
    let lt : i < length ks = omega (arith, c.loop-place-test.true, c.len.ensures, c.loop-place.log.ok.0) in
    let own : one.tags ≡ without id n.tags = ap (λ k. k.tags) c.without.ensures.note in
    let none : without id one.tags ≡ [] = ap (without id) own ∙ without_twice id n.tags ∙ no_tags (without id n.tags) (sym c.without.ensures.left ∙ c.if-without.false) in (
      (λ now can.
          let inv = c.loop-place.invariant.0 now can in
          let l = lighter undone g.I.Inversion.fits id now i ks n one lt c.index_mut.ensures.value c.without.ensures.note inv.0 in
          let out = c.leave_out.ensures.seen now l.0 in (
            c.leave_out.ensures.can now l.0,
            ap (committed id) out ∙ bare_out undone id now i ks one lt none ∙ l.1 ∙ inv.1,
            subst (AllFree id) (sym (ap (take i) out ∙ front_left i (seen undone now (slice_set ks i one)) ∙ l.2)) inv.2,
          )),
      omega (arith, c.leave_out.ensures.len, c.loop-place.invariant.1),
      c.leave_out.ensures.capacity ∙ c.loop-place.invariant.2,
    )

pub returns-clause-seen : goal.returns-clause-seen
returns-clause-seen g c = λ now can.
    let id = c.args.id in
    let inv = c.loop-place.invariant.0 now can in
    let ns = seen g.I.Inversion.undone now c.loop-place.log.items in
    let far : length ns ≤ c.loop-place.place = omega (arith, c.loop-place-test.false, c.len.ensures, c.loop-place.log.ok.0, seen_length g.I.Inversion.undone now c.loop-place.log.items) in
    sym (free_same id ns (subst (AllFree id) (take_all c.loop-place.place ns far) inv.2)) ∙ inv.1

pub returns-clause-can : goal.returns-clause-can
returns-clause-can g c = λ now can. (c.loop-place.invariant.0 now can).0
