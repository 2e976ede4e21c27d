use Rattle.sk_undo.proofs.Cites.{sym, ◌∙◌, reverse}
use Rattle.sk_undo.proofs.Stable.{unnoted_seen, unnoted_stable}
use Rattle.sk_undo.proofs.slot.goes_unnoted.Goals as goal

pub returns-clause-seen : goal.returns-clause-seen
returns-clause-seen c = c.goes_unnoted.ensures ∙ unnoted_seen c.args.tags.now c.args.value.now (reverse c.args.log.now.notes.items) c.requires

pub returns-clause-stable : goal.returns-clause-stable
returns-clause-stable c is = unnoted_stable c.args.tags.now (reverse c.args.log.now.notes.items) (sym c.goes_unnoted.ensures ∙ is)
