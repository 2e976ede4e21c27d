-- The newest note is the last.
use Rattle.sk_slots.proofs.Names.{[], ◌∙◌, ap, sym, last_tags, SlotView, newest_tags, without_ready}
use Rattle.sk_slots.proofs.Undoing.{newest, seen_tags}
use Rattle.sk_slots.proofs.slot.Slot.tags.Goals as goal

pub returns-in-Some : goal.returns-in-Some
returns-in-Some g c =
    let r = c.self.inside.has_ready in
    newest c.noted.result.now c.in-Some.newest.now c.in-Some.ensures.item.3.0 c.in-Some.ensures.item.3.1
    ∙ ap (newest_tags []) (c.noted.ensures ∙ ap (without_ready r) c.as_slice.ensures.value)
    ∙ sym (seen_tags g.I.Inversion.undone c.self.inside.value [] (without_ready r c.self.inside.log.items)) ∙ ap (λ (s : SlotView _). last_tags [] s.log) c.self.view_is
