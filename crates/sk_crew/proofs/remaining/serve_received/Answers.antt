use Rattle.std.proofs.Common.{◌∙◌}
use Rattle.sk_crew.proofs.Duties.{one_and_more}
use Rattle.sk_crew.proofs.Served.{served_more}
use Rattle.sk_crew.proofs.remaining.serve_received.Goals as goal

pub loop-preserved : goal.loop-preserved
loop-preserved g c = record {
  number = c.in_ok-worker-2.ensures.number ∙ c.loop.invariant.number;
  replies = one_and_more c.args.worker c.loop.worker c.in_ok-worker-2.worker c.loop.invariant.replies c.in_ok-worker-2.ensures.replies;
  served = served_more c.args.service.server c.loop.server c.serve.new.server c.loop.invariant.served c.serve.ensures.served;
}
