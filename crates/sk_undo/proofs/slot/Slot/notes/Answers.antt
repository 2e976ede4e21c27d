use Rattle.sk_undo.proofs.Cites.{ap, ◌∙◌, undone, note_count}
use Rattle.sk_undo.proofs.Counted.{as_many_seen}
use Rattle.sk_undo.proofs.slot.Slot.notes.Goals as goal

pub returns : goal.returns
returns c = c.len.ensures ∙ as_many_seen undone c.self.inside.value c.self.inside.log.notes.items ∙ ap note_count c.self.view_is
