-- The entries so far are set, and a wrong one is among all just where it is among those that are left.
use Rattle.sk_reopened.proofs.Names.{◌≡◌, drop, has_wrong}
use Rattle.sk_reopened.proofs.Filled.{HasSome}
use Rattle.sk_reopened.proofs.opening.fill.Given as goal

abbrev pub invariant-loop-entry : goal.invariant-loop-entry
invariant-loop-entry l = record {
  some : HasSome l.entries (drop l.entry-index l.entries) l.initial.store l.store;
  wrong : has_wrong (drop l.entry-index l.entries) ≡ has_wrong l.entries;
}
