use Rattle.sk_requests.proofs.Names.{◌≡◌, ℕ, ◌-◌, ◌<◌, ◌≤◌, ◌^◌, List, length, take, drop, decimal, sym, ◌∙◌, ap, arith}
use Rattle.sk_requests.proofs.Names.{false≢true, said, value_from}
use Rattle.sk_requests.proofs.Lines.{digits_said, value-decimal, says}
use Rattle.sk_requests.proofs.Typed.{said_long, said_first, said_last}
use Rattle.sk_requests.proofs.line.number_in.Goals as goal

-- the digits of a line that says a number say it
value_said : (mark n limit : ℕ) (line : List ℕ) → limit < 2 ^ 32 → n ≤ limit → line ≡ said mark n → value_from 0 (take (length line - 1 - 1) (drop 1 line)) ≡ n
value_said mark n limit line low small is =
    ap (value_from 0) (digits_said mark n (length line - 1) line is (omega (arith, said_long mark n line is))) ∙ value-decimal n (omega (arith, low, small))

pub returns-then-line-lt2-clause-none : goal.returns-then-line-lt2-clause-none
returns-then-line-lt2-clause-none c = λ _ n small is. omega (arith, c.if-line-lt2.true, said_long c.args.mark n c.args.line.now is)

pub returns-then-line-mark-clause-none : goal.returns-then-line-mark-clause-none
returns-then-line-mark-clause-none c = λ _ n small is. c.if-line-mark.true (said_first c.args.mark n c.args.line.now is)

pub returns-then-line-last-ne13-clause-none : goal.returns-then-line-last-ne13-clause-none
returns-then-line-last-ne13-clause-none c = λ _ n small is. c.if-line-last-ne13.true (said_last c.args.mark n c.args.line.now is)

pub returns-in_err-said-clause-none : goal.returns-in_err-said-clause-none
returns-in_err-said-clause-none c = λ _ n small is.
    omega (arith, small, c.number.ensures.none c.in_err-said.was, value_said c.args.mark n c.args.limit c.args.line.now c.requires small is)

pub returns-then-not-are_same-clause-none : goal.returns-then-not-are_same-clause-none
returns-then-not-are_same-clause-none c = λ _ n small is.
    let line = c.args.line.now in
    let same : c.in_ok-said.said ≡ n = sym c.in_ok-said.ensures.some.1 ∙ value_said c.args.mark n c.args.limit line c.requires small is in
    false≢true (sym c.if-not-are_same.true
    ∙ c.are_same.ensures.1 (c.as_bytes.ensures.value ∙ c.format-text.ensures.text ∙ ap decimal same ∙ sym (digits_said c.args.mark n (length line - 1) line is (omega (arith, said_long c.args.mark n line is)))))

pub returns-clause-some : goal.returns-clause-some
returns-clause-some c = (
  c.in_ok-said.ensures.some.0,
  says c.args.mark c.in_ok-said.said (length c.args.line.now - 1) c.args.line.now c.if-line-lt2.false (omega (arith, c.if-line-lt2.false)) c.if-line-mark.false c.if-line-last-ne13.false
      (sym (c.as_bytes.ensures.value ∙ c.format-text.ensures.text) ∙ c.are_same.ensures.0 c.if-not-are_same.false),
)
