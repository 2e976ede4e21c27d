-- What the plan writes is written, each with its note or covered by the newest one.
use Rattle.sk_machine.proofs.Names.{ap, LogsView, look_at, writes_of, seen_with, input_in}
use Rattle.sk_machine.proofs.Given.{then_ok, then_err}
use Rattle.sk_machine.proofs.Joins.{apart_of}
use Rattle.sk_machine.proofs.Writes.{performed}
use Rattle.sk_machine.proofs.machine.perform.Goals as goal

pub returns : goal.returns
returns c =
    let l = c.args.logs.now in
    let seen = seen_with (look_at l.slots) c.args.scripts.now c.args.pid (input_in c.args.input) c.args.plan.now in
    let apart = apart_of (look_at l.slots) c.args.pid seen c.requires.can.apart in
    let ws = writes_of (look_at l.slots) c.args.pid seen in
    record {
      writes = then_ok c.perform_plan.result c.perform_plan.ensures.writes
          (λ is. performed ws l c.perform_plan.new.keeper.slots apart c.requires.clean (ap (λ (k : LogsView). k.slots) is));
      says = c.perform_plan.ensures.says;
      unwritten = then_err c.perform_plan.result c.perform_plan.ensures.unwritten (λ is. ap (λ (k : LogsView). k.slots) is);
      unsaid = c.perform_plan.ensures.unsaid;
    }
