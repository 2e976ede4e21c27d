-- What is written so far: the lines of the events so far.
use Rattle.sk_trace.proofs.Names.{◌≡◌, take, string_bytes, trace_text}
use Rattle.sk_trace.proofs.trace.Trace.print.Given as goal

abbrev pub invariant-loop-event : goal.invariant-loop-event
invariant-loop-event l = string_bytes l.text ≡ trace_text (take l.event-index l.event-items)
