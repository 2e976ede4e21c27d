use Rattle.sk_workers.proofs.Closed.{distinct}
use Rattle.sk_crew.proofs.Duties.{crewed, has_cause, runs_from}
use Rattle.sk_crew.proofs.crew.run_crew.Goals as goal

pub close-requires-clause-distinct : goal.close-requires-clause-distinct
close-requires-clause-distinct g c =
    distinct c.args.plan.workers c.in-Ok-run_served.workers.items c.in-Ok-new.made.1.items c.in-Ok-new.ensures.workers c.in-Ok-run_served.ensures.numbers

pub returns-in-Ok-close-clause-crewed : goal.returns-in-Ok-close-clause-crewed
returns-in-Ok-close-clause-crewed g c =
    crewed c.args.plan c.args.desk c.in-Ok-new.made.0 c.in-Ok-run_served.workers.items c.in-Ok-new.made.1.items c.in-Ok.setup.processes.items
    c.in-Ok-close.history.entries.items c.in-Ok-close.history.desk
    c.in-Ok-new.ensures.shared c.in-Ok-new.ensures.workers c.in-Ok-run_served.ensures.numbers c.in-Ok.ensures c.in-Ok-run_served.ensures.duties c.in-Ok-run_served.ensures.turns c.in-Ok-close.ensures.closed

pub returns-in-Err-close-clause-fault : goal.returns-in-Err-close-clause-fault
returns-in-Err-close-clause-fault g c =
    has_cause c.args.plan c.args.desk c.in-Ok-new.made.0 c.in-Ok-run_served.workers.items c.in-Ok-new.made.1.items c.in-Ok.setup.processes.items
    c.in-Err-close.fault
    c.in-Ok-new.ensures.shared c.in-Ok-new.ensures.workers c.in-Ok-run_served.ensures.numbers c.in-Ok.ensures c.in-Ok-run_served.ensures.duties c.in-Ok-run_served.ensures.turns c.in-Err-close.ensures.fault

pub returns-in-Ok-close-clause-legal : goal.returns-in-Ok-close-clause-legal
returns-in-Ok-close-clause-legal g c =
    runs_from c.args.desk c.in-Ok-new.made.0 c.in-Ok-run_served.workers.items c.in-Ok-close.history.entries.items c.in-Ok-close.history.desk
    c.requires.opened c.requires.trace c.in-Ok-new.ensures.shared c.in-Ok-close.ensures.closed
