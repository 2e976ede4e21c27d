-- The history that the crew left.
use Rattle.speculate.proofs.Names.{◌≡◌, length, ap, subst, arith, DeskView, Runs, IsCrewed}
use Rattle.speculate.proofs.working.work.Goals as goal

pub returns : goal.returns
returns g c =
    let h = c.in-Ok-run_crew.history in
    let from = subst (λ (d : DeskView). Runs d h.entries.items h.desk) c.in-Ok.ensures.desk (c.in-Ok-run_crew.ensures.legal (ap (λ (d : DeskView). d.kernel.earlier) c.in-Ok.ensures.desk)) in
    let calls : c.len-calls.result ≡ length h.entries.items = omega (arith, c.len-calls.ensures, h.entries.ok.0) in (
      h.entries.items,
      calls,
      subst (λ (d : DeskView). IsCrewed (record { workers = c.args.workers; turns = c.args.turns; ahead = 64 }) d h.entries.items h.desk) c.in-Ok.ensures.desk c.in-Ok-run_crew.ensures.crewed,
      from,
      c.in-Ok-run_crew.ensures.settled,
    )
