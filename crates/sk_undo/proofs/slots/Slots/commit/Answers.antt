use Rattle.sk_undo.proofs.Cites.{◌+◌, drop, subst, drop_all}
use Rattle.sk_undo.proofs.Passes.{Committing, next_of, committing_from, committing_more, all_committed}
use Rattle.sk_undo.proofs.slots.Slots.commit.Goals as goal

pub loop-entity-init : goal.loop-entity-init
loop-entity-init c = committing_from c.args.guess c.args.self.now c.args.entities.now c.requires.listed c.requires.rest c.requires.grow

pub loop-entity-preserved : goal.loop-entity-preserved
loop-entity-preserved c =
    let es = c.args.entities.now in
    let i = c.loop-entity.entity-index in
    committing_more c.args.guess c.args.self.now c.loop-entity.self c.commit_at.new.self c.entity-item.result (drop (i + 1) es)
    (subst (Committing c.args.guess c.args.self.now c.loop-entity.self) (next_of es i c.entity-item.result c.loop-entity-test.true c.entity-item.is) c.loop-entity.invariant) c.commit_at.ensures

pub returns-clause-slots : goal.returns-clause-slots
returns-clause-slots c = all_committed c.args.guess c.args.self.now c.loop-entity.self
    (subst (Committing c.args.guess c.args.self.now c.loop-entity.self) (drop_all c.loop-entity.entity-index c.args.entities.now c.loop-entity-test.false) c.loop-entity.invariant)

pub returns-clause-kept : goal.returns-clause-kept
returns-clause-kept c = c.loop-entity.invariant.kept
