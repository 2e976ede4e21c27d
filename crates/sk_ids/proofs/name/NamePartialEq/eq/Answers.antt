-- Names are the same where they compare so.
use Rattle.sk_ids.proofs.Names.{sym, ap, ◌∙◌, is_eq, texts_ties}
use Rattle.sk_ids.proofs.name.NamePartialEq.eq.Goals as goal

pub returns : goal.returns
returns c = c.is_eq.ensures ∙ ap is_eq c.cmp.ensures ∙ sym (texts_ties c.args.self.now c.args.other.now)
