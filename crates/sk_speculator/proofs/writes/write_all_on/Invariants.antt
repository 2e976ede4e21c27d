-- What is left to write, and what may be left to settle.
use Rattle.sk_speculator.proofs.Names.{◌≡◌, true, length, drop, keys_of, SettledBut}
use Rattle.sk_speculator.proofs.Writing.{WritingOn}
use Rattle.sk_speculator.proofs.writes.write_all_on.Given as goal

abbrev pub invariant-loop-place : goal.invariant-loop-place
invariant-loop-place g l =
    let R = g.K.Key.order in
    WritingOn R g.I.Inversion.written l.fn.slots l.fn.written l.slots (drop l.place l.fn.written)
    × (drop l.place l.written ≡ drop l.place l.fn.written)
    × (keys_of l.written ≡ keys_of l.fn.written)
    × (length l.written ≡ length l.fn.written)
    × (SettledBut R (keys_of l.fn.written) l.fn.slots → SettledBut R (keys_of l.fn.written) l.slots)
    × (l.done ≡ true → SettledBut R (keys_of l.fn.written) l.fn.slots
    → SettledBut R (keys_of (drop l.place l.fn.written)) l.slots)
