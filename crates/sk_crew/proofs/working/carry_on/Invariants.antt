use Rattle.sk_crew.proofs.Names.{◌≡◌, OnlyReplies}
use Rattle.sk_crew.proofs.working.carry_on.Given as goal

abbrev pub invariant-loop : goal.invariant-loop
invariant-loop g l = record {
  number : l.lead.worker.number ≡ l.fn.lead.worker.number;
  replies : OnlyReplies l.fn.lead.worker l.lead.worker;
}
