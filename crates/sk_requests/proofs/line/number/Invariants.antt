use Rattle.sk_requests.proofs.Names.{◌≡◌, ◌≤◌, drop, value_from}
use Rattle.sk_requests.proofs.line.number.Given as goal

-- the digits that are left lead to the same number
abbrev pub invariant-loop-digit : goal.invariant-loop-digit
invariant-loop-digit l = record {
  same : value_from l.number (drop l.digit-index l.digits) ≡ value_from 0 l.digits;
  within : l.number ≤ l.limit;
}
