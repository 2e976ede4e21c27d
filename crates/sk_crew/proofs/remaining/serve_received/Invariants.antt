use Rattle.sk_crew.proofs.Names.{◌≡◌, OnlyReplies, IsServed}
use Rattle.sk_crew.proofs.remaining.serve_received.Given as goal

abbrev pub invariant-loop : goal.invariant-loop
invariant-loop g l = record {
  number : l.worker.number ≡ l.fn.worker.number;
  replies : OnlyReplies l.fn.worker l.worker;
  served : IsServed l.fn.service.server l.server;
}
