-- Each key stands behind the one before it.
use Rattle.sk_commands.proofs.Names.{◌≡◌, ◌≤◌, ◌-◌, ◌∙◌, sym, ap, subst, map, vec_items, get_or, get_or-map, length-map, slice_cmp, nat_cmp, Less, arith}
use Rattle.sk_commands.proofs.InOrder.{all_rise, one_more}
use Rattle.sk_commands.proofs.rising.are_rising.Goals as goal

pub loop-place-preserved : goal.loop-place-preserved
loop-place-preserved c =
    let ks = c.args.keys.now in
    let place = c.loop-place.place in
    let a = c.index-keys-place.result in
    let b = c.index-keys-place-in-loop-place.result in
    one_more (map vec_items ks) place c.loop-place.auto.place c.loop-place.invariant (λ d.
    let first : get_or (map vec_items ks) (place - 1) d ≡ c.as_slice-earlier.result.now =
    get_or-map vec_items ks (place - 1) a d (omega (arith, c.loop-place-test.true)) ∙ ap vec_items (sym c.index-keys-place.is) ∙ sym c.as_slice-earlier.ensures.value in
    let second : get_or (map vec_items ks) place d ≡ c.as_slice.result.now =
    get_or-map vec_items ks place b d c.loop-place-test.true ∙ ap vec_items (sym c.index-keys-place-in-loop-place.is) ∙ sym c.as_slice.ensures.value in
    subst (λ x. slice_cmp nat_cmp x (get_or (map vec_items ks) place d) ≡ Less) (sym first)
    (subst (λ y. slice_cmp nat_cmp c.as_slice-earlier.result.now y ≡ Less) (sym second) (sym c.cmp.ensures ∙ c.in-Less.is)))

pub returns : goal.returns
returns c = λ _.
    all_rise (map vec_items c.args.keys.now) c.loop-place.place
    (subst (λ n. n ≤ c.loop-place.place) (sym (length-map c.args.keys.now vec_items)) c.loop-place-test.false) c.loop-place.invariant
