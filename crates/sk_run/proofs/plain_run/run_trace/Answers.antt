-- Writing out what is left changes no byte.
use Rattle.sk_run.proofs.Ended.{faulty_flushed, faulty_out, plain_out}
use Rattle.sk_run.proofs.plain_run.run_trace.Goals as goal

pub returns-in-Ok-clause-end : goal.returns-in-Ok-clause-end
returns-in-Ok-clause-end g c =
    plain_out c.args.boot.now c.args.trace.now.events c.in-Ok.left.plain c.in-Ok.left.steps c.write_plain_report-written.result c.ended.result _ _ _ _
    c.in-Ok.ensures.sound c.in-Ok.ensures.run c.in-Ok.ensures.steps c.write_plain_report-written.ensures c.ended.ensures.end

pub returns-in-Err-clause-end : goal.returns-in-Err-clause-end
returns-in-Err-clause-end g c = faulty_out c.args.boot.now c.args.trace.now.events c.in-Err.fault c.tell_trace_fault.result _ c.in-Err.ensures.fault c.tell_trace_fault.ensures

pub returns-in-Err-clause-flushed : goal.returns-in-Err-clause-flushed
returns-in-Err-clause-flushed g c = faulty_flushed c.in-Err.fault c.tell_trace_fault.result _ c.tell_trace_fault.ensures
