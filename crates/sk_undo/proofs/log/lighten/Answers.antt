-- One note more is without the guess.
use Rattle.sk_undo.proofs.Cites.{◌≡◌, ◌-◌, ◌<◌, suc, length, drop, refl, sym, ◌∙◌, ap, subst, arith, length-set}
use Rattle.std.proofs.Common.{slice_set}
use Rattle.sk_undo.proofs.Growing.{AllRest}
use Rattle.sk_undo.proofs.NewestNotes.{from_end, from_before, stops_there, lightened_from, none_gone_over, rests_there}
use Rattle.sk_undo.proofs.log.lighten.Goals as goal

pub loop-before-init : goal.loop-before-init
loop-before-init g c =
    let ns = c.args.notes.now.items in
    let long : length c.as_slice-before.result.now ≡ length ns = ap length c.as_slice-before.ensures.value in (
      from_end c.args.guess ns ∙ ap (λ k. lightened_from c.args.guess k ns) (sym long),
      omega arith,
      refl,
      refl,
      refl,
      subst (λ k. AllRest c.args.guess (drop k ns)) (sym long) (none_gone_over c.args.guess ns),
    )

pub loop-before-preserved : goal.loop-before-preserved
loop-before-preserved g c =
    let ns = c.args.notes.now.items in
    let j = c.loop-before.before - 1 in
    let some = c.loop-before-test.true in
    let within = c.loop-before.invariant.1 in
    let next : c.loop-before.before ≡ suc j = omega arith in
    let lt : j < length ns = omega arith in
    let item = c.index_mut.ensures.value in (
      ap (λ tags. slice_set c.loop-before.notes.items j (record { tags = tags; undo = c.index_mut.result.now.undo })) c.without.ensures
          ∙ from_before c.args.guess c.loop-before.before j ns c.loop-before.notes.items c.index_mut.result.now next lt c.loop-before.invariant.0 item,
      omega arith,
      length-set c.loop-before.notes.items j _ ∙ c.loop-before.invariant.2,
      c.loop-before.invariant.3,
      c.loop-before.invariant.4,
      rests_there c.args.guess c.loop-before.before j ns c.loop-before.notes.items c.index.result.now next lt c.loop-before.invariant.0 c.index.ensures (sym c.if-contains.ensures) c.loop-before.invariant.5,
    )

pub returns-else-contains-clause-before : goal.returns-else-contains-clause-before
returns-else-contains-clause-before g c =
    let ns = c.args.notes.now.items in
    let j = c.loop-before.before - 1 in
    let some = c.loop-before-test.true in
    let within = c.loop-before.invariant.1 in
    let next : c.loop-before.before ≡ suc j = omega arith in
    let lt : j < length ns = omega arith in
    stops_there c.args.guess c.loop-before.before j ns c.loop-before.notes.items c.index.result.now next lt c.loop-before.invariant.0 c.index.ensures (sym c.if-contains.ensures)
