-- The map of the kind has what the map of all has.
use Rattle.sk_undo.proofs.Cites.{ap, sym, ◌∙◌, Option, object_cmp, name_order, nat_cmp, Obj, Copy, SlotView, slot_in, look_at}
use Rattle.std.specs.FinMap as map
use Rattle.std.specs.FinMap.{FinMap}
use Rattle.sk_map.specs.Seen.{seen}
use Rattle.sk_undo.specs.Kinds.{link_cmp, joined}
use Rattle.sk_undo.proofs.ByKind.{joined_get}
use Rattle.sk_undo.proofs.entity_map.readable.Goals as goal

pub returns-in-Obj : goal.returns-in-Obj
returns-in-Obj c = λ (ps ss xs : FinMap nat_cmp SlotView) (ls : FinMap link_cmp SlotView).
    let os = seen object_cmp c.args.objects.now in
    let cs = seen name_order c.args.copies.now in
    c.held.ensures ∙ ap (λ k. (slot_in (map.get os k)).now) c.object.ensures
    ∙ ap (λ (s : Option SlotView). (slot_in s).now) (sym (joined_get (record { processes = ps; signals = ss; exits = xs; objects = os; links = ls; copies = cs }) (Obj c.in-Obj.id)))
    ∙ ap (look_at (joined ps ss xs os ls cs)) (sym c.in-Obj.is)

pub returns-in-Copy : goal.returns-in-Copy
returns-in-Copy c = λ (ps ss xs : FinMap nat_cmp SlotView) (ls : FinMap link_cmp SlotView).
    let os = seen object_cmp c.args.objects.now in
    let cs = seen name_order c.args.copies.now in
    c.held-in-Copy.ensures
    ∙ ap (λ (s : Option SlotView). (slot_in s).now) (sym (joined_get (record { processes = ps; signals = ss; exits = xs; objects = os; links = ls; copies = cs }) (Copy c.in-Copy.name)))
    ∙ ap (look_at (joined ps ss xs os ls cs)) (sym c.in-Copy.is)
