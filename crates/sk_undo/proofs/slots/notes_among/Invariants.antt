-- The notes that were counted, with those of the slots that are left, are all of them.
use Rattle.sk_undo.proofs.Cites.{◌≡◌, ◌≤◌, ◌+◌, min, ◌-◌, ◌^◌, sum_by, note_count}
use Rattle.sk_undo.proofs.slots.notes_among.Given as goal

abbrev pub invariant-loop-slot : goal.invariant-loop-slot
invariant-loop-slot g l = record {
  all : min (l.total + sum_by note_count l.slot-iterator) (2 ^ 64 - 1) ≡ min (l.initial.total + sum_by note_count l.initial.slot-iterator) (2 ^ 64 - 1);
  fits : l.total ≤ 2 ^ 64 - 1;
}
