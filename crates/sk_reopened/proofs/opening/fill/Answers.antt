-- One entry more is set; at the end none is left.
use Rattle.sk_reopened.proofs.Names.{arith, ◌≡◌, ◌+◌, ◌<◌, ◌||◌, ◌∷◌, [], false, drop, length, sym, ap, subst, ◌∙◌}
use Rattle.sk_reopened.proofs.Names.{drop_all, drop_more, Entries, has_wrong}
use Rattle.sk_reopened.proofs.Filled.{all_set, one_more, HasSome}
use Rattle.sk_reopened.proofs.opening.fill.Goals as goal

pub loop-entry-preserved : goal.loop-entry-preserved
loop-entry-preserved c =
    let all = c.args.entries.now in
    let i = c.loop-entry.entry-index in
    let entry = c.entry-item.result in
    let left = drop (i + 1) all in
    let more : i < length all = omega (arith, c.loop-entry-test.true) in
    let next : drop i all ≡ entry ∷ left = drop_more all i entry more ∙ ap (λ e. e ∷ left) (sym c.entry-item.is) in
    let sets = c.in_ok-set.ensures in
    let some : HasSome all (entry ∷ left) c.args.store.now c.loop-entry.store =
    subst (λ (es : Entries). HasSome all es c.args.store.now c.loop-entry.store) next c.loop-entry.invariant.some in
    record {
      some = one_more all left entry c.args.store.now c.loop-entry.store c.set.new.store some sets.1;
      wrong = ap (λ b. b || has_wrong left) (sym sets.0) ∙ ap has_wrong (sym next) ∙ c.loop-entry.invariant.wrong;
    }

pub returns : goal.returns
returns c =
    let all = c.args.entries.now in
    let i = c.loop-entry.entry-index in
    let none : drop i all ≡ [] = drop_all i all (omega (arith, c.loop-entry-test.false)) in
    let some : HasSome all [] c.args.store.now c.loop-entry.store =
    subst (λ (es : Entries). HasSome all es c.args.store.now c.loop-entry.store) none c.loop-entry.invariant.some in (
      sym c.loop-entry.invariant.wrong ∙ ap has_wrong none,
      all_set all c.args.store.now c.loop-entry.store some,
    )
