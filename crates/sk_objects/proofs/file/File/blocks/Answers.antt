use Rattle.sk_objects.proofs.Names.{length, sym, ap, ◌∙◌, blocks_of}
use Rattle.sk_objects.proofs.Seen.{seen_len}
use Rattle.sk_objects.proofs.file.File.blocks.Goals as goal

pub returns-clause-value : goal.returns-clause-value
returns-clause-value c =
    c.blocks_of.ensures.value
    ∙ ap blocks_of (sym (seen_len c.self.inside.slots.items c.self.inside.size c.self.invariant.are) ∙ ap length c.self.view_is)
