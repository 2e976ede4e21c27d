use Rattle.sk_undo.proofs.Cites.{◌+◌, drop, sym, subst, ap, LogsView}
use Rattle.sk_undo.proofs.Passes.{next_of}
use Rattle.sk_undo.proofs.Opening.{Opening, opening_from, opening_at_end, opening_more, values_moved, nothing_noted, none_bare}
use Rattle.sk_undo.proofs.logs.move_all.Goals as goal

pub loop-entity-init : goal.loop-entity-init
loop-entity-init c = record {
  slots = subst (λ (l : LogsView). Opening c.args.store.now c.args.entities.now c.args.store.now l.slots) (sym c.requires.none)
      (opening_from c.args.store.now c.args.entities.now c.requires.rising c.requires.all);
  tags = ap (λ (l : LogsView). l.tags) c.requires.none;
}

pub loop-entity-preserved : goal.loop-entity-preserved
loop-entity-preserved c =
    let es = c.args.entities.now in
    let i = c.loop-entity.entity-index in
    let now = c.loop-entity.logs.slots in
    record {
      slots = opening_more c.args.store.now c.loop-entity.store c.move_over.new.store now c.move_over.new.logs.slots c.entity-item.result (drop (i + 1) es)
          (subst (λ es. Opening c.args.store.now es c.loop-entity.store now) (next_of es i c.entity-item.result c.loop-entity-test.true c.entity-item.is) c.loop-entity.invariant.slots)
          c.in_ok-move_over.ensures.here c.in_ok-move_over.ensures.others;
      tags = c.in_ok-move_over.ensures.tags;
    }

pub returns-clause-values : goal.returns-clause-values
returns-clause-values c = values_moved c.args.store.now c.loop-entity.store c.loop-entity.logs.slots (opening_at_end _ c.loop-entity.entity-index _ _ _ c.loop-entity-test.false c.loop-entity.invariant.slots)

pub returns-clause-logs : goal.returns-clause-logs
returns-clause-logs c = nothing_noted c.args.store.now c.loop-entity.store c.loop-entity.logs.slots (opening_at_end _ c.loop-entity.entity-index _ _ _ c.loop-entity-test.false c.loop-entity.invariant.slots)

pub returns-clause-bare : goal.returns-clause-bare
returns-clause-bare c = none_bare c.args.store.now c.loop-entity.store c.loop-entity.logs.slots (opening_at_end _ c.loop-entity.entity-index _ _ _ c.loop-entity-test.false c.loop-entity.invariant.slots)
