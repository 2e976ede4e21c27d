use Rattle.sk_undo.proofs.Cites.{◌≡◌, sym, ap, ◌∙◌, rules, is_empty, undone, SlotView}
use Rattle.sk_undo.proofs.SeenNotes.{notes_none}
use Rattle.sk_undo.proofs.slot.Slot.is_unnoted.Goals as goal

pub returns : goal.returns
returns c =
    let raw : c.is_empty.result ≡ is_empty c.self.inside.log.notes.items = search rules in
    raw ∙ sym (notes_none undone c.self.inside.value c.self.inside.log.notes.items) ∙ ap (λ (s : SlotView). is_empty s.log) c.self.view_is
