use Rattle.sk_crew.proofs.Names.{◌≡◌, OnlyReplies}
use Rattle.sk_crew.proofs.remaining.give_received.Given as goal

abbrev pub invariant-loop : goal.invariant-loop
invariant-loop g l = record {
  number : l.worker.number ≡ l.fn.lead.worker.number;
  replies : OnlyReplies l.fn.lead.worker l.worker;
}
