use Rattle.sk_requests.proofs.Names.{◌≡◌, ◌<◌, arith}
use Rattle.sk_requests.proofs.Whole.{digit_more}
use Rattle.sk_requests.proofs.line.digits_in.Goals as goal
use Rattle.sk_requests.proofs.line.digits_in.Goals.{else-i-gt0-2-via-then-i-gt0-2+else-number-eq0, else-i-gt0-2-via-else-i-gt0-2}

pub loop-i-preserved : goal.loop-i-preserved
loop-i-preserved c =
    let i = c.loop-i.i in
    let n = c.loop-i.number in
    let more : 0 < i → n ≡ 0 → ⊥ = elim c.else-i-gt0-2.branch [
      | else-i-gt0-2-via-then-i-gt0-2+else-number-eq0 w ↦ λ _ zero. w.if-number-eq0.false zero
      | else-i-gt0-2-via-else-i-gt0-2 w ↦ λ some _. omega (arith, some, w.if-i-gt0-2.false)
    ] in
    let digit = c.if-not-is_ascii_digit.ensures.cases in
    record {
      none = λ wrong. absurd (omega (arith, wrong));
      same = λ _. digit_more c.args.bytes.now i n (omega arith) c.loop-i.invariant.none c.loop-i.invariant.same more digit.0 digit.1
          (omega (arith, c.if-number-limit.false, c.requires));
      within = omega (arith, c.if-number-limit.false);
    }
