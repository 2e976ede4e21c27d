use Rattle.sk_requests.proofs.Names.{◌≡◌, ℕ, ◌+◌, ◌-◌, ◌*◌, ◌<◌, List, length, slice_index, drop, sym, ◌∙◌, ap, arith}
use Rattle.sk_requests.proofs.Names.{at_drop_more, at_drop_all, value_from}
use Rattle.sk_requests.proofs.Lines.{value_from-le}
use Rattle.sk_requests.proofs.line.number.Goals as goal

-- one digit more
digit_on : (n r i : ℕ) (digits : List ℕ) → i < length digits → r ≡ slice_index digits i - 48 → value_from n (drop i digits) ≡ value_from 0 digits → value_from (n * 10 + r) (drop (i + 1) digits) ≡ value_from 0 digits
digit_on n r i digits lt is same =
    let more : value_from n (drop i digits) ≡ value_from (n * 10 + (slice_index digits i - 48)) (drop (i + 1) digits) = at_drop_more (value_from n) digits i 0 lt in
    ap (λ k. value_from (n * 10 + k) (drop (i + 1) digits)) is ∙ sym more ∙ same

pub loop-digit-preserved : goal.loop-digit-preserved
loop-digit-preserved c = record {
  same = digit_on c.loop-digit.number c.saturating_sub.result c.loop-digit.digit-index c.args.digits.now (omega arith) c.saturating_sub.ensures c.loop-digit.invariant.same;
  within = omega (arith, c.if-number-limit.false);
}

pub returns-then-number-limit-clause-none : goal.returns-then-number-limit-clause-none
returns-then-number-limit-clause-none c = λ _.
    let same = digit_on c.loop-digit.number c.saturating_sub.result c.loop-digit.digit-index c.args.digits.now (omega arith) c.saturating_sub.ensures c.loop-digit.invariant.same in
    omega (arith, same, c.if-number-limit.true, value_from-le (c.loop-digit.number * 10 + c.saturating_sub.result) (drop (c.loop-digit.digit-index + 1) c.args.digits.now))

pub returns-clause-some : goal.returns-clause-some
returns-clause-some c =
    let done : value_from c.loop-digit.number (drop c.loop-digit.digit-index c.args.digits.now) ≡ c.loop-digit.number =
    at_drop_all (value_from c.loop-digit.number) c.args.digits.now c.loop-digit.digit-index (omega arith) in
    (c.loop-digit.invariant.within, sym c.loop-digit.invariant.same ∙ done)
