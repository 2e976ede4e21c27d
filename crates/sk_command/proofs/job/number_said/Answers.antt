-- What is parsed is the number that the text says.
use Rattle.std.proofs.Common.{arith}
use Rattle.sk_command.proofs.Numbers.{is_said, not_said}
use Rattle.sk_command.proofs.job.number_said.Goals as goal

pub returns-in_default-clause-value : goal.returns-in_default-clause-value
returns-in_default-clause-value c =
    not_said c.args.most c.args.text.now (λ within. c.in_default.ensures.value.0 (within.0, omega (arith, within.3, c.ranges.most.fits)))

pub returns-clause-value : goal.returns-clause-value
returns-clause-value c =
    let parsed = c.in-Ok.ensures.value.0 in
    is_said c.args.most c.in-Ok.number c.args.text.now (parsed.0.0, omega (arith, parsed), omega (arith, parsed), omega (arith, parsed)) parsed.1
