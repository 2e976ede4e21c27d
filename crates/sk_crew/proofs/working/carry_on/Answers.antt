use Rattle.std.proofs.Common.{◌∙◌}
use Rattle.sk_crew.proofs.Duties.{one_and_more}
use Rattle.sk_crew.proofs.working.carry_on.Goals as goal

pub loop-preserved : goal.loop-preserved
loop-preserved g c = record {
  number = c.carry-lead.ensures.number ∙ c.loop.invariant.number;
  replies = one_and_more c.args.lead.worker c.loop.lead.worker c.carry-lead.result.worker c.loop.invariant.replies c.carry-lead.ensures.replies;
}
