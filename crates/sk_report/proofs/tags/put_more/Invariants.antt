-- Those behind the place are put.
use Rattle.sk_report.proofs.Names.{◌≡◌, ◌≤◌, ◌+◌, ◌-◌, ◌*◌, ◌∷◌, ◌++◌, length, drop, decimal, flat_map}
use Rattle.sk_report.specs.declared.tags.TheConstants.{TAG}
use Rattle.sk_report.proofs.tags.put_more.Given as goal

abbrev pub invariant-loop-back : goal.invariant-loop-back
invariant-loop-back l =
    (drop l.start l.line ≡ flat_map (λ id. 44 ∷ decimal id) (drop l.back l.ids) ++ drop l.end l.fn.line)
    × (l.back ≤ length l.ids)
    × (l.start ≤ l.end)
    × (l.end ≤ l.start + (length l.ids - l.back) * TAG)
    × (length l.line ≡ length l.fn.line)
