-- As many as there are places with a string, and none is there twice.
use Rattle.sk_index.proofs.Names.{length, sym, ap, ◌∙◌, subst, AreApart}
use Rattle.sk_index.proofs.Counts.{apart_numbered, length-numbered}
use Rattle.sk_index.proofs.index.Index.len.Goals as goal

pub returns-clause-many : goal.returns-clause-many
returns-clause-many c = c.len.ensures ∙ sym (length-numbered 0 c.self.inside.strings.slots) ∙ ap length c.self.view_is

pub returns-clause-apart : goal.returns-clause-apart
returns-clause-apart c = subst AreApart c.self.view_is (apart_numbered 0 c.self.inside.strings.slots c.self.invariant.apart)
