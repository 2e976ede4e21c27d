use Rattle.sk_undo.proofs.Cites.{refl, sym, ap, ◌∙◌, rules, SlotCommitted}
use Rattle.std.specs.FinMap as map
use Rattle.sk_undo.proofs.Maps.{placed_gone, placed_full, changed_slot, changed_none}
use Rattle.sk_undo.proofs.slots.Slots.commit_at.Goals as goal

pub returns-in_default : goal.returns-in_default
returns-in_default c = changed_none (SlotCommitted c.args.guess) c.args.self.now _ c.args.entity.now (search rules) (record { now = refl; log = λ _. tt; joined = λ _ _. refl }) c.slot_mut.follows.holds-at-none

pub returns-then-is_bare : goal.returns-then-is_bare
returns-then-is_bare c =
    let whole = rw c.in-Some.is at (c.slot_mut.follows.holds c.commit.new.self) in
    changed_slot (SlotCommitted c.args.guess) c.args.self.now _ c.args.entity.now _ c.commit.new.self (sym c.in-Some.ensures.value) (record { now = c.commit.ensures.now; log = c.commit.ensures.log; joined = c.commit.ensures.joined })
    (c.remove.ensures ∙ ap (λ m. map.remove m c.args.entity.now) whole ∙ placed_gone c.args.self.now c.args.entity.now c.commit.new.self (sym c.if-is_bare.ensures))

pub returns-else-is_bare : goal.returns-else-is_bare
returns-else-is_bare c =
    let whole = rw c.in-Some.is at (c.slot_mut.follows.holds c.commit.new.self) in
    changed_slot (SlotCommitted c.args.guess) c.args.self.now _ c.args.entity.now _ c.commit.new.self (sym c.in-Some.ensures.value) (record { now = c.commit.ensures.now; log = c.commit.ensures.log; joined = c.commit.ensures.joined })
    (whole ∙ placed_full c.args.self.now c.args.entity.now c.commit.new.self (sym c.if-is_bare.ensures))
