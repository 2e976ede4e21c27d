use Rattle.sk_undo.proofs.Cites.{refl, sym, ap, ◌∙◌, rules, SlotUnwound}
use Rattle.std.specs.FinMap as map
use Rattle.sk_undo.proofs.Maps.{placed_gone, placed_full, changed_slot, changed_none}
use Rattle.sk_undo.proofs.slots.Slots.unwind_at.Goals as goal

pub returns-in_default : goal.returns-in_default
returns-in_default c = changed_none (SlotUnwound c.args.guess) c.args.self.now _ c.args.entity.now (search rules) (record { now = λ _. refl; log = λ _. refl }) c.slot_mut.follows.holds-at-none

pub returns-then-is_bare : goal.returns-then-is_bare
returns-then-is_bare c =
    let whole = rw c.in-Some.is at (c.slot_mut.follows.holds c.unwind.new.self) in
    changed_slot (SlotUnwound c.args.guess) c.args.self.now _ c.args.entity.now _ c.unwind.new.self (sym c.in-Some.ensures.value) (record { now = c.unwind.ensures.now; log = c.unwind.ensures.log })
    (c.remove.ensures ∙ ap (λ m. map.remove m c.args.entity.now) whole ∙ placed_gone c.args.self.now c.args.entity.now c.unwind.new.self (sym c.if-is_bare.ensures))

pub returns-else-is_bare : goal.returns-else-is_bare
returns-else-is_bare c =
    let whole = rw c.in-Some.is at (c.slot_mut.follows.holds c.unwind.new.self) in
    changed_slot (SlotUnwound c.args.guess) c.args.self.now _ c.args.entity.now _ c.unwind.new.self (sym c.in-Some.ensures.value) (record { now = c.unwind.ensures.now; log = c.unwind.ensures.log })
    (whole ∙ placed_full c.args.self.now c.args.entity.now c.unwind.new.self (sym c.if-is_bare.ensures))
