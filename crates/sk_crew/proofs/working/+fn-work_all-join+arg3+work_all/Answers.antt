-- The last worker, and those before it.
use Rattle.sk_crew.proofs.Duties.{all_work_on}
use Rattle.sk_crew.proofs.working.+fn-work_all-join+arg3+work_all.Goals as goal

pub returns-clause-work : goal.returns-clause-work
returns-clause-work g t c =
    let joined = c.join-one in
    all_work_on c.args.plan c.args.processes.now c.args.workers.items c.pop.new.self.items c.push_reserved.new.self.items
    joined.result.1.items c.in-Some.last joined.result.0
    c.in-Some.ensures.items c.push_reserved.ensures.items joined.ensures.first joined.ensures.second.0
