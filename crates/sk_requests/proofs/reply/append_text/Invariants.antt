use Rattle.sk_requests.proofs.Names.{◌≡◌, ◌+◌, ◌-◌, ◌≤◌, ◌++◌, length, take, map, vec_capacity, in_line}
use Rattle.sk_requests.proofs.reply.append_text.Given as goal

abbrev pub invariant-loop-byte : goal.invariant-loop-byte
invariant-loop-byte l = record {
  items : l.out.items ≡ l.fn.out.items ++ map in_line (take l.byte-index l.text);
  room : length l.out.items + (length l.text - l.byte-index) ≤ vec_capacity l.out;
  capacity : vec_capacity l.fn.out ≤ vec_capacity l.out;
}
