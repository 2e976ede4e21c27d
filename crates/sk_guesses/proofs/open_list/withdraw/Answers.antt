-- A change is made of one after the other.
use Rattle.sk_guesses.proofs.Names.{◌+◌, ◌<◌, length, arith, sym, subst, refl, slice_index_or, without_tag}
use Rattle.std.proofs.lemmas.List.{get_or_default}
use Rattle.sk_guesses.proofs.Passes.{Untagged, from_there, all_untagged}
use Rattle.sk_guesses.proofs.Shared.{IsPassed, nothing, one_passed, all_passed}
use Rattle.sk_guesses.proofs.open_list.withdraw.Goals as goal

pub loop-place-init : goal.loop-place-init
loop-place-init g c = from_there c.args.id c.args.from c.args.opens.now.items c.requires.none_before

pub loop-place-preserved : goal.loop-place-preserved
loop-place-preserved g c =
    let ls = c.loop-place.opens.items in
    let i = c.loop-place.place in
    let l = slice_index_or ls i nothing in
    let lt : i < length c.args.opens.now.items = omega (arith, c.loop-place-test.true, c.len-place-end.ensures) in
    subst (λ xs. IsPassed (Untagged c.args.id) c.args.opens.now.items xs (i + 1)) (sym (c.without.ensures nothing))
    (one_passed c.loop-place.invariant l (record { guess = without_tag c.args.id l.guess }) lt
    (get_or_default ls i nothing l (omega (arith, lt, c.loop-place.invariant.as_many))) refl)

pub returns-clause-opens : goal.returns-clause-opens
returns-clause-opens g c =
    all_untagged c.args.id _ _ (all_passed c.loop-place.invariant (omega (arith, c.loop-place-test.false, c.len-place-end.ensures)))
