-- What is told is of the desk that the crew left.
use Rattle.speculate.proofs.Workers.{worked_out}
use Rattle.speculate.proofs.working.run_work.Goals as goal

pub returns-clause-end : goal.returns-clause-end
returns-clause-end g c =
    worked_out c.args.workers c.args.turns c.args.declarations.now c.in-Some.worked.calls c.in-Some.worked.desk c.in-Some.worked.server c.tell_worked.result _ _ c.in-Some.ensures c.tell_worked.ensures.end
