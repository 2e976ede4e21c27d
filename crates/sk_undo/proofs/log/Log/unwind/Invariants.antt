-- What is left unwinds to the same, and can be undone; the room stays.
use Rattle.sk_undo.proofs.Cites.{◌≡◌, ◌≤◌, vec_capacity, reverse, FitsBy, undone_by}
use Rattle.std.proofs.Common.{vec_len}
use Rattle.sk_undo.proofs.SeenNotes.{Left}
use Rattle.sk_undo.proofs.log.Log.unwind.Given as goal

abbrev pub invariant-loop-guess : goal.invariant-loop-guess
invariant-loop-guess g l =
    Left (FitsBy g.V.Logged.fits) (undone_by g.V.Logged.undone) l.guess l.fn.value l.value (reverse l.fn.self.notes.items) (reverse l.self.notes.items)
    × (vec_len l.self.notes ≤ vec_len l.fn.self.notes) × (vec_capacity l.self.notes ≡ vec_capacity l.fn.self.notes)

abbrev pub decreases-loop-guess : goal.decreases-loop-guess
decreases-loop-guess g l = vec_len l.self.notes
