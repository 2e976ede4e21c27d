-- In an event: by its words.
use Rattle.sk_faults.proofs.Names.{words, call}
use Rattle.sk_faults.specs.declared.part.Part.TheVariants as parts
use Rattle.sk_faults.proofs.Lists.{list_told}
use Rattle.sk_faults.proofs.Calls.{call_agrees}
use Rattle.sk_faults.proofs.laws.step_lines.Goals as goal

pub returns : goal.returns
returns c = λ before line. list_told parts.Steps call call_agrees before (words line)
