-- What is left to put back gives what all gives, and the notes before it stay.
use Rattle.sk_slots.proofs.Names.{◌≡◌, ◌≤◌, take, drop, length, vec_len, vec_capacity, rewound, CanGoBack}
use Rattle.sk_slots.proofs.notes.go_back.Given as goal

abbrev pub invariant-loop-log : goal.invariant-loop-log
invariant-loop-log g l =
    let undone = g.I.Inversion.undone in
    CanGoBack undone g.I.Inversion.fits l.value l.log.items
    × (l.place ≤ length l.log.items)
    × (rewound undone l.value (drop l.place l.log.items) ≡ rewound undone l.fn.value (drop l.place l.fn.log.items))
    × (take l.place l.log.items ≡ take l.place l.fn.log.items)
    × (vec_len l.log ≤ vec_len l.fn.log) × (vec_capacity l.log ≡ vec_capacity l.fn.log)

abbrev pub decreases-loop-log : goal.decreases-loop-log
decreases-loop-log g l = vec_len l.log
