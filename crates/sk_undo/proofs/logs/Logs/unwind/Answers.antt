use Rattle.sk_undo.proofs.Cites.{◌+◌, ◌∙◌, drop, subst, refl, drop_all}
use Rattle.sk_undo.proofs.Passes.{Unwinding, next_of, unwinding_from, unwinding_more, all_unwound}
use Rattle.sk_undo.proofs.logs.Logs.unwind.Goals as goal

pub loop-entity-init : goal.loop-entity-init
loop-entity-init c = record {
  slots = unwinding_from c.args.guess c.args.self.now.slots c.args.entities.now c.requires.listed c.requires.grow;
  tags = refl;
}

pub loop-entity-preserved : goal.loop-entity-preserved
loop-entity-preserved c =
    let es = c.args.entities.now in
    let i = c.loop-entity.entity-index in
    let now = c.loop-entity.self.slots in
    record {
      slots = unwinding_more c.args.guess c.args.self.now.slots now c.unwind_at.new.self.slots c.entity-item.result (drop (i + 1) es)
          (subst (Unwinding c.args.guess c.args.self.now.slots now) (next_of es i c.entity-item.result c.loop-entity-test.true c.entity-item.is) c.loop-entity.invariant.slots) c.unwind_at.ensures.slots;
      tags = c.unwind_at.ensures.tags ∙ c.loop-entity.invariant.tags;
    }

pub returns-clause-slots : goal.returns-clause-slots
returns-clause-slots c =
    let now = c.loop-entity.self.slots in
    all_unwound c.args.guess c.args.self.now.slots now
    (subst (Unwinding c.args.guess c.args.self.now.slots now) (drop_all c.loop-entity.entity-index c.args.entities.now c.loop-entity-test.false) c.loop-entity.invariant.slots)
