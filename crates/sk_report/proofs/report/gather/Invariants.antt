-- Those that are left add the same terminals from here, and the lines of those before the loop's place are there.
use Rattle.sk_report.proofs.Names.{◌≡◌, ◌++◌, IfSome, take, drop, flat_map}
use Rattle.std.specs.BTreeSet.{insert_key}
use Rattle.std.specs.Ordering.{nat_cmp}
use Rattle.sk_report.specs.Listed.{line_said, terminals_said}
use Rattle.sk_report.proofs.report.gather.Given as goal

abbrev pub invariant-loop-one : goal.invariant-loop-one
invariant-loop-one g l =
    (terminals_said l.numbers.keys (drop l.one-index l.all) ≡ terminals_said l.fn.numbers.keys l.all)
    × (l.lines.items ≡ l.fn.lines.items ++ flat_map (line_said g.S.Subject.end_with l.all) (take l.one-index l.all))
    × IfSome l.last (λ number. insert_key nat_cmp l.numbers.keys number ≡ l.numbers.keys)
