-- The notes up to the place depend on something, and on the guess no more; the rest is lightened to the same.
use Rattle.sk_slots.proofs.Names.{◌≡◌, ◌≤◌, ◌-◌, take, vec_len, vec_capacity, committed, seen, CanGoBack}
use Rattle.sk_slots.proofs.Joins.{AllFree}
use Rattle.sk_slots.proofs.notes.lighten.Given as goal

abbrev pub invariant-loop-place : goal.invariant-loop-place
invariant-loop-place g l =
    let undone = g.I.Inversion.undone in
    let fits = g.I.Inversion.fits in
    ((now : _) → CanGoBack undone fits now l.fn.log.items → CanGoBack undone fits now l.log.items
    × (committed l.id (seen undone now l.log.items) ≡ committed l.id (seen undone now l.fn.log.items))
    × AllFree l.id (take l.place (seen undone now l.log.items)))
    × (vec_len l.log ≤ vec_len l.fn.log) × (vec_capacity l.log ≡ vec_capacity l.fn.log)

abbrev pub decreases-loop-place : goal.decreases-loop-place
decreases-loop-place g l = vec_len l.log - l.place
