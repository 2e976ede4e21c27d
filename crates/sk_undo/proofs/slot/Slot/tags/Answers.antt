use Rattle.sk_undo.proofs.Cites.{[], reverse, ap, ◌∙◌, last_tags, undone, SlotView}
use Rattle.sk_undo.proofs.SeenNotes.{tags_seen}
use Rattle.sk_undo.proofs.slot.Slot.tags.Goals as goal

pub returns : goal.returns
returns c = c.tags.ensures ∙ tags_seen undone c.self.inside.value (reverse c.self.inside.log.notes.items) ∙ ap (λ (s : SlotView). last_tags [] (reverse s.log)) c.self.view_is
