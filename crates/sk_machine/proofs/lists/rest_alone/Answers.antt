-- One entity more, and at the end all.
use Rattle.sk_machine.proofs.Names.{◌∷◌, [], take, sym, subst, Covers, tags_in}
use Rattle.sk_machine.proofs.AsProcess.{covers_both, covers_none}
use Rattle.sk_machine.proofs.Listed.{take_all, take_next}
use Rattle.sk_machine.proofs.lists.rest_alone.Goals as goal

pub loop-entity-init : goal.loop-entity-init
loop-entity-init c = covers_none (c.args.id ∷ []) (tags_in c.args.logs.now.slots)

pub loop-entity-preserved : goal.loop-entity-preserved
loop-entity-preserved c =
    let base = tags_in c.args.logs.now.slots in
    let es = c.args.entities.now in
    let i = c.loop-entity.entity-index in
    let x = c.entity-item.result in
    subst (λ xs. Covers (c.args.id ∷ []) xs base) (sym (take_next es i x c.loop-entity-test.true c.entity-item.is))
    (covers_both (c.args.id ∷ []) (take i es) (x ∷ []) base c.loop-entity.invariant (c.rests_alone.ensures c.if-not-rests_alone.false))

pub returns : goal.returns
returns c = λ _.
    subst (λ xs. Covers (c.args.id ∷ []) xs (tags_in c.args.logs.now.slots)) (take_all c.args.entities.now c.loop-entity.entity-index c.loop-entity-test.false) c.loop-entity.invariant
