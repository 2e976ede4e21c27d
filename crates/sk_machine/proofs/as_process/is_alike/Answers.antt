-- Sets that are the same have the same list.
use Rattle.sk_machine.proofs.Names.{sym, ◌∙◌, exact_bytes}
use Rattle.sk_machine.proofs.as_process.is_alike.Goals as goal

pub returns : goal.returns
returns c = λ is. sym c.tags_of.ensures ∙ (exact_bytes c.tags_of.result.now c.next_tags.result.now).0 (sym c.is_same.ensures ∙ is) ∙ c.next_tags.ensures
