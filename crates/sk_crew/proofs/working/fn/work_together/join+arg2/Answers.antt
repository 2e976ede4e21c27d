-- What worker 0 carries at the end are replies.
use Rattle.std.proofs.Common.{◌∙◌}
use Rattle.sk_crew.proofs.Duties.{replies_keep, replies_took}
use Rattle.sk_crew.proofs.working.fn.work_together.join+arg2.Goals as goal

pub returns : goal.returns
returns g c =
    let led = c.lead_rounds-lead.ensures in
    let carried = c.carry_on.ensures in (
      carried.number ∙ led.0,
      λ first keeps.
          replies_keep c.captures.plan c.captures.processes.now c.lead_rounds-lead.result.worker c.carry_on.result.worker
          (led.0 ∙ first) carried.replies (led.1 first keeps),
      λ new. replies_took c.captures.plan c.captures.processes.now c.lead_rounds-lead.result.worker c.carry_on.result.worker carried.replies (led.2 new),
    )
