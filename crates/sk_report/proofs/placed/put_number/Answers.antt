-- No number is longer than its places.
use Rattle.sk_report.proofs.Names.{rules, arith, ◌≤◌, length, decimal, length-decimal-le}
use Rattle.sk_report.proofs.placed.put_number.Goals as goal

pub write_digits-requires : goal.write_digits-requires
write_digits-requires c = search (rules, length-decimal-le 20)

pub returns-clause-start : goal.returns-clause-start
returns-clause-start c =
    let short : length (decimal c.args.number) ≤ 20 = search (rules, length-decimal-le 20) in
    let start = c.write_digits.ensures.start in
    (omega (arith, start, c.requires.0), omega (arith, short, start, c.requires.0))
