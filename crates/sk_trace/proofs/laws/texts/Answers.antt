use Rattle.sk_trace.proofs.Again.{trace_again, trace_once}
use Rattle.sk_trace.proofs.laws.texts.Goals as goal

pub returns-clause-again : goal.returns-clause-again
returns-clause-again c = trace_again

pub returns-clause-once : goal.returns-clause-once
returns-clause-once c = trace_once
