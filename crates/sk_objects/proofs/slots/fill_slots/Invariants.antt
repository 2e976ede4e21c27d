use Rattle.sk_objects.proofs.Names.{◌≡◌, ◌+◌, ◌++◌, replicate, length, vec_len, vec_capacity, blank}
use Rattle.sk_objects.proofs.slots.fill_slots.Given as goal

abbrev pub invariant-loop : goal.invariant-loop
invariant-loop l = record {
  items : l.slots.items ≡ l.initial.slots.items ++ replicate l.counter blank;
  len : vec_len l.slots ≡ length l.initial.slots.items + l.counter;
  room : vec_capacity l.slots ≡ vec_capacity l.initial.slots;
}
