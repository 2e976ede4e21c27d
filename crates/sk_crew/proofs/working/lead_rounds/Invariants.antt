use Rattle.sk_crew.proofs.Names.{◌≡◌, KeepsTo, IsNew}
use Rattle.sk_crew.proofs.Turns.{Goes, HasBegun}
use Rattle.sk_crew.proofs.working.lead_rounds.Given as goal

abbrev pub invariant-loop-turn : goal.invariant-loop-turn
invariant-loop-turn g l = record {
  number : l.lead.worker.number ≡ l.fn.lead.worker.number;
  keeps : (l.fn.lead.worker.number ≡ 0) → KeepsTo l.plan l.processes l.fn.lead.worker → KeepsTo l.plan l.processes l.lead.worker;
  begun : IsNew l.fn.lead.worker → HasBegun l.turn l.lead.worker;
  goes : Goes l.plan.workers l.processes l.fn.lead.worker.number l.rounds l.lead.worker;
}
