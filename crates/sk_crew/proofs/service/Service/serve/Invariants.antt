use Rattle.sk_crew.specs.Served.{IsServed}
use Rattle.sk_crew.proofs.service.Service.serve.Given as goal

abbrev pub invariant-loop : goal.invariant-loop
invariant-loop g l = IsServed l.fn.self.server l.service.server
