-- One entity more is in the lists of its guesses alone.
use Rattle.sk_machine.proofs.Names.{◌≡◌, ◌+◌, suc, ◌∷◌, drop, sym, ◌∙◌, ap, subst, arith, drop-cons, entity_cmp}
use Rattle.sk_machine.proofs.Names.{opens_of, left_to, same_opens, left_to_keeps, AllAlmostExact, tags_in}
use Rattle.sk_machine.proofs.Listed.{drop_all, left_more, none_left}
use Rattle.sk_machine.proofs.lists.relieve_all.Goals as goal

pub loop-entity-preserved : goal.loop-entity-preserved
loop-entity-preserved c =
    let base = tags_in c.args.logs.now.slots in
    let es = c.args.entities.now in
    let i = c.loop-entity.entity-index in
    let x = c.entity-item.result in
    let os = c.loop-entity.guesses.opens in
    let next : suc i ≡ i + 1 = omega arith in
    let rest : drop i es ≡ x ∷ drop (i + 1) es = drop-cons es i x c.loop-entity-test.true ∙ (λ j. sym c.entity-item.is j ∷ drop (next j) es) in
    let almost = subst (λ ys. AllAlmostExact base ys os) rest c.loop-entity.invariant.almost in
    record {
      view = c.leave_to.ensures.view ∙ c.loop-entity.invariant.view;
      opens = ap opens_of c.leave_to.ensures.opens ∙ same_opens (left_to entity_cmp c.tags_of.result.now x) (left_to_keeps entity_cmp c.tags_of.result.now x) os ∙ c.loop-entity.invariant.opens;
      almost = subst (AllAlmostExact base (drop (i + 1) es)) (sym c.leave_to.ensures.opens) (left_more base x (drop (i + 1) es) c.tags_of.result.now c.tags_of.ensures os almost);
    }

pub returns-clause-exact : goal.returns-clause-exact
returns-clause-exact c =
    none_left (tags_in c.args.logs.now.slots) c.loop-entity.guesses.opens
    (subst (λ ys. AllAlmostExact (tags_in c.args.logs.now.slots) ys c.loop-entity.guesses.opens) (drop_all c.args.entities.now c.loop-entity.entity-index c.loop-entity-test.false) c.loop-entity.invariant.almost)
