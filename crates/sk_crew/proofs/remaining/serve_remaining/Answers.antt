use Rattle.sk_crew.proofs.Duties.{one_and_more}
use Rattle.sk_crew.proofs.Served.{served_more}
use Rattle.sk_crew.proofs.remaining.serve_remaining.Goals as goal

pub returns-clause-replies : goal.returns-clause-replies
returns-clause-replies g c =
    one_and_more c.args.lead.worker c.in_ok-worker-2.worker c.in_ok-worker-3.worker
    (one_and_more c.args.lead.worker c.in_ok-worker.worker c.in_ok-worker-2.worker c.in_ok-worker.ensures.replies c.in_ok-worker-2.ensures.replies)
    c.in_ok-worker-3.ensures.replies

pub returns-clause-served : goal.returns-clause-served
returns-clause-served g c =
    served_more c.args.service.server c.in_ok-worker-2.server c.serve_unsent.new.server c.in_ok-worker-2.ensures.served c.serve_unsent.ensures.served
