use Rattle.sk_requests.proofs.Names.{◌≡◌, ◌+◌, ◌-◌, ◌≤◌, ◌++◌, length, take, vec_capacity}
use Rattle.sk_requests.proofs.reply.append_digits.Given as goal

abbrev pub invariant-loop-digit : goal.invariant-loop-digit
invariant-loop-digit l = record {
  items : l.out.items ≡ l.fn.out.items ++ take l.digit-index l.digits;
  room : length l.out.items + (length l.digits - l.digit-index) ≤ vec_capacity l.out;
  capacity : vec_capacity l.fn.out ≤ vec_capacity l.out;
}
