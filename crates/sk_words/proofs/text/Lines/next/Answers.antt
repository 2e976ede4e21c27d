-- The next line of a text: from its parts between line feeds.
use Rattle.std.proofs.Common.{sym, ◌∙◌}
use Rattle.sk_words.proofs.Parts.{next_line}
use Rattle.sk_words.proofs.text.Lines.next.Goals as goal

pub returns-in-Some : goal.returns-in-Some
returns-in-Some c = rw c.without_return.ensures (sym c.self.view_is ∙ next_line c.self.inside.rest.now c.in-Some.line.now c.in-Some.rest.now c.in-Some.ensures.parts)
