use Rattle.sk_trace.proofs.Again.{trace_again}
use Rattle.sk_trace.proofs.laws.trace_is_read_again.Goals as goal

pub returns : goal.returns
returns c = trace_again c.args.trace.now.events c.known.ensures
