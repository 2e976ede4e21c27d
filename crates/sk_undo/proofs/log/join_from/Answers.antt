use Rattle.sk_undo.proofs.Cites.{◌≡◌, ◌<◌, ◌≤◌, ◌+◌, true, false, None, suc, length, sym, ◌∙◌, ap, subst, arith}
use Rattle.sk_undo.proofs.Cites.{repeats, joined_from}
use Rattle.sk_undo.proofs.Joins.{leave_out, go_on, at_end}
use Rattle.sk_undo.proofs.log.join_from.Goals as goal

pub loop-place-preserved-then-is_needless : goal.loop-place-preserved-then-is_needless
loop-place-preserved-then-is_needless g c =
    let items = c.loop-place.notes.items in
    let place = c.loop-place.place in
    let lt : place < length items = subst (λ xs. place < length xs) c.as_slice.ensures.value (omega (arith, c.loop-place-test.true, c.len.ensures, c.as_slice.ensures.len)) in
    let repeated : repeats g.V.Logged.is_whole None place items ≡ true = ap (repeats g.V.Logged.is_whole None place) (sym c.as_slice.ensures.value) ∙ sym c.is_needless.ensures ∙ c.if-is_needless.true in (
      ap (joined_from g.V.Logged.is_whole None place) c.drop_at.ensures.items ∙ leave_out g.V.Logged.is_whole None place items lt repeated ∙ c.loop-place.invariant.0,
      c.drop_at.ensures.capacity ∙ c.loop-place.invariant.1,
      omega (arith, c.drop_at.ensures.len, c.loop-place.invariant.2),
    )

pub loop-place-preserved : goal.loop-place-preserved
loop-place-preserved g c =
    let items = c.loop-place.notes.items in
    let place = c.loop-place.place in
    let lt : place < length items = subst (λ xs. place < length xs) c.as_slice.ensures.value (omega (arith, c.loop-place-test.true, c.len.ensures, c.as_slice.ensures.len)) in
    let other : repeats g.V.Logged.is_whole None place items ≡ false = ap (repeats g.V.Logged.is_whole None place) (sym c.as_slice.ensures.value) ∙ sym c.is_needless.ensures ∙ c.if-is_needless.false in
    let next : place + 1 ≡ suc place = omega arith in (
      ap (λ k. joined_from g.V.Logged.is_whole None k items) next ∙ go_on g.V.Logged.is_whole None place items lt other ∙ c.loop-place.invariant.0,
      c.loop-place.invariant.1,
      c.loop-place.invariant.2,
    )

pub returns-clause-notes : goal.returns-clause-notes
returns-clause-notes g c =
    let place = c.loop-place.place in
    let le : length c.loop-place.notes.items ≤ place = subst (λ n. n ≤ place) (c.len.ensures ∙ c.loop-place.notes.ok.0) c.loop-place-test.false in
    sym (at_end g.V.Logged.is_whole None place c.loop-place.notes.items le) ∙ c.loop-place.invariant.0
