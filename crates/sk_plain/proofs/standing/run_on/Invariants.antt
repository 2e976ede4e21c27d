-- From here the rest of the record comes to where all of it does.
use Rattle.sk_plain.proofs.Cites.{◌≡◌, drop, run, plain}
use Rattle.sk_plain.proofs.standing.run_on.Given as goal

abbrev pub invariant-loop-entry : goal.invariant-loop-entry
invariant-loop-entry l = record {
  run : run (plain l.scripts) l.store (drop l.entry-index l.entries) ≡ run (plain l.scripts) l.fn.store l.entries;
}
