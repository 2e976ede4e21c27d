-- The slots of the map are those that are asked, kind by kind.
use Rattle.sk_undo.proofs.Present.{and_assoc}
use Rattle.std.proofs.lemmas.List.Folds.{list_all-append}
use Rattle.sk_undo.proofs.slots.Slots.all_present.Goals as goal

pub returns : goal.returns
returns c =
    rw (c.are_present.ensures, c.are_present-links.ensures, c.are_present-objects.ensures, c.are_present-left.ensures, c.are_present-queued.ensures, c.are_present-own.ensures)
    (rw (← c.self.view_is, ← c.values-values.ensures) (simp (list_all-append, and_assoc)))
