use Rattle.sk_crew.proofs.Names.{◌≡◌, IfSome, IsLentNext, KeepsTo, IsNew}
use Rattle.sk_crew.proofs.Turns.{Goes, HasBegun}
use Rattle.sk_crew.proofs.working.work.Given as goal

abbrev pub invariant-loop-turn : goal.invariant-loop-turn
invariant-loop-turn g l = record {
  number : l.worker.number ≡ l.fn.worker.number;
  keeps : KeepsTo l.plan l.processes l.fn.worker → KeepsTo l.plan l.processes l.worker;
  begun : IsNew l.fn.worker → HasBegun l.turn l.worker;
  goes : Goes l.plan.workers l.processes l.fn.worker.number l.rounds l.worker;
  lent : IfSome l.place (IsLentNext l.processes l.rounds);
}
