use Rattle.std.proofs.Common.{length, sym, ap, ◌∙◌}
use Rattle.sk_objects.proofs.Seen.{seen_len}
use Rattle.sk_objects.proofs.file.File.len.Goals as goal

pub returns-clause-value : goal.returns-clause-value
returns-clause-value c = sym (seen_len c.self.inside.slots.items c.self.inside.size c.self.invariant.are) ∙ ap length c.self.view_is
