use Rattle.sk_objects.proofs.Names.{◌≡◌, ◌≤◌, take, vec_len, vec_capacity}
use Rattle.sk_objects.proofs.slots.copy_slots.Given as goal

abbrev pub invariant-loop-block : goal.invariant-loop-block
invariant-loop-block l = record {
  items : l.copy.items ≡ take l.block-index l.slots;
  len : vec_len l.copy ≡ l.block-index;
  room : 64 ≤ vec_capacity l.copy;
}
