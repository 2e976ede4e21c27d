-- Another digit was read, and behind the last one the line ends.
use Rattle.sk_scenario.proofs.Names.{ℕ, ◌+◌, ◌*◌, sym, subst, refl, arith, one_of, positive, EndsLine}
use Rattle.sk_scenario.proofs.Numbered.{AreRead, none_read, one_more, ends_number}
use Rattle.sk_scenario.proofs.glance.number_line.Goals as goal

pub loop-digit-init : goal.loop-digit-init
loop-digit-init c = record { small = omega arith; read = none_read c.args.text.now }

pub loop-digit-preserved : goal.loop-digit-preserved
loop-digit-preserved c =
    let l = c.loop-digit in
    let d = c.in-Some.digit in
    let e = c.in-Some.ensures in
    let more = one_more c.args.text.now l.rest.now c.in-Some.tail.now l.number d l.invariant.read e.2 e.0 e.1 in
    record {
      small = omega (arith, c.if-number-gt99999999.false, c.from.ensures, e.0, e.1);
      read = subst (λ (k : ℕ). AreRead c.args.text.now c.in-Some.tail.now (l.number * 10 + k)) (sym c.from.ensures) more;
    }

pub returns : goal.returns
returns c =
    let l = c.loop-digit in
    let e = c.in_ok-id.ensures in
    let limits = e.some.0 refl in
    let ends = ends_number c.args.text.now l.rest.now c.in_ok-behind.behind.now l.number l.invariant.read c.in_ok-behind.ensures limits.0 (omega (arith, limits.1)) in
    subst (λ n. EndsLine (one_of positive) c.args.text.now n c.in_ok-behind.behind.now) (sym e.value) ends
