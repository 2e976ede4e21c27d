-- The notes gone over are without the guess.
use Rattle.sk_undo.proofs.Cites.{◌≡◌, ◌≤◌, length, drop, vec_len, vec_capacity}
use Rattle.sk_undo.proofs.Growing.{AllRest}
use Rattle.sk_undo.proofs.NewestNotes.{lightened_from}
use Rattle.sk_undo.proofs.log.lighten.Given as goal

abbrev pub invariant-loop-before : goal.invariant-loop-before
invariant-loop-before g l = (l.notes.items ≡ lightened_from l.guess l.before l.fn.notes.items) × (l.before ≤ length l.fn.notes.items) × (length l.notes.items ≡ length l.fn.notes.items) × (vec_len l.notes ≡ vec_len l.fn.notes) × (vec_capacity l.notes ≡ vec_capacity l.fn.notes) × AllRest l.guess (drop l.before l.fn.notes.items)

abbrev pub decreases-loop-before : goal.decreases-loop-before
decreases-loop-before g l = l.before
