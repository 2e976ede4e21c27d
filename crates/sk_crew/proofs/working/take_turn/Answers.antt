-- What was handed in before the answer is within what the worker ran ahead, and what was lent is of the next process.
use Rattle.sk_crew.proofs.Ahead.{told_ahead, lent_is}
use Rattle.sk_workers.specs.Closing.{begins_turn}
use Rattle.sk_crew.proofs.working.take_turn.Goals as goal

pub returns-clause-told : goal.returns-clause-told
returns-clause-told g c =
    let calls = c.turn_with_leases-worker.ensures.calls in
    (calls.0, told_ahead c.args.ahead c.args.pid c.turn_with_leases-worker.result.1.handed (begins_turn c.args.worker) c.args.place.now calls.0 c.requires calls.1, calls.2)

pub returns-clause-lent : goal.returns-clause-lent
returns-clause-lent g c =
    let turn = c.turn_with_leases-worker in
    lent_is turn.result.1.lent turn.new.lease c.args.next turn.ensures.lent turn.ensures.own
