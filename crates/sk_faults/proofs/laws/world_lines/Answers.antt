-- In an event: by its words.
use Rattle.sk_faults.proofs.Names.{words, world_event}
use Rattle.sk_faults.specs.declared.part.Part.TheVariants as parts
use Rattle.sk_faults.proofs.Lists.{list_told}
use Rattle.sk_faults.proofs.Sections.{world_agrees}
use Rattle.sk_faults.proofs.laws.world_lines.Goals as goal

pub returns : goal.returns
returns c = λ before line. list_told parts.World world_event world_agrees before (words line)
