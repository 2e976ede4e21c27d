use Rattle.sk_requests.proofs.Names.{◌≡◌, ◌<◌, ◌≤◌, decimal, take}
use Rattle.sk_requests.proofs.line.digits_in.Given as goal

-- the digits that came say the number
abbrev pub invariant-loop-i : goal.invariant-loop-i
invariant-loop-i l = record {
  none : l.i ≡ 0 → l.number ≡ 0;
  same : 0 < l.i → take l.i l.bytes ≡ decimal l.number;
  within : l.number ≤ l.limit;
}
