use Rattle.sk_undo.proofs.Cites.{◌≡◌, true, Some, None, ap, sym, ◌∙◌, rules, is_empty, slot_wrote, slot_in, placed}
use Rattle.std.specs.FinMap as map
use Rattle.sk_undo.proofs.Maps.{insert_same, placed_untouched, placed_gone, placed_full}
use Rattle.sk_undo.proofs.slots.Slots.clear_apart.Goals as goal

pub returns-in_err-clear-clause-err : goal.returns-in_err-clear-clause-err
returns-in_err-clear-clause-err c =
    let whole = rw c.in-Some.is at (c.slot_mut.follows.holds c.clear.new.self) in
    let same = insert_same c.args.self.now c.args.entity.now c.clear.new.self (sym c.in-Some.ensures.value ∙ ap Some (sym c.in_err-clear.ensures.err)) in
    search (rules, whole ∙ same)

pub returns-then-is_bare-clause-ok : goal.returns-then-is_bare-clause-ok
returns-then-is_bare-clause-ok c =
    let whole = rw c.in-Some.is at (c.slot_mut.follows.holds c.clear.new.self) in
    c.remove.ensures ∙ ap (λ m. map.remove m c.args.entity.now) whole ∙ placed_gone c.args.self.now c.args.entity.now c.clear.new.self (sym c.if-is_bare.ensures)
    ∙ ap (placed c.args.self.now c.args.entity.now) (c.in_ok-clear.ensures.ok ∙ ap (λ o. slot_wrote c.args.tags.now (slot_in o) None) c.in-Some.ensures.value)

pub returns-else-is_bare-clause-ok : goal.returns-else-is_bare-clause-ok
returns-else-is_bare-clause-ok c =
    let whole = rw c.in-Some.is at (c.slot_mut.follows.holds c.clear.new.self) in
    whole ∙ placed_full c.args.self.now c.args.entity.now c.clear.new.self (sym c.if-is_bare.ensures)
    ∙ ap (placed c.args.self.now c.args.entity.now) (c.in_ok-clear.ensures.ok ∙ ap (λ o. slot_wrote c.args.tags.now (slot_in o) None) c.in-Some.ensures.value)

pub returns-then-is_empty-clause-ok : goal.returns-then-is_empty-clause-ok
returns-then-is_empty-clause-ok c =
    let none : map.get c.args.self.now c.args.entity.now ≡ None = search rules in
    let empty : is_empty c.args.tags.now ≡ true = search rules in
    c.slot_mut.follows.holds-at-none ∙ placed_untouched c.args.self.now c.args.entity.now c.args.tags.now none empty
