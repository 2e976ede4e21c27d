-- In an event: by its words.
use Rattle.sk_faults.proofs.Names.{words, event}
use Rattle.sk_faults.specs.declared.part.Part.TheVariants as parts
use Rattle.sk_faults.proofs.Lists.{list_told}
use Rattle.sk_faults.proofs.Steps.{event_agrees}
use Rattle.sk_faults.proofs.laws.trace_lines.Goals as goal

pub returns : goal.returns
returns c = λ before line. list_told parts.Trace event event_agrees before (words line)
