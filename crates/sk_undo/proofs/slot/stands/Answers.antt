use Rattle.sk_undo.proofs.Cites.{◌∙◌, reverse}
use Rattle.sk_undo.proofs.Stable.{unnoted_seen, unnoted_stable}
use Rattle.sk_undo.proofs.slot.stands.Goals as goal

pub returns : goal.returns
returns c = unnoted_stable c.args.tags.now (reverse c.args.log.now.notes.items) (unnoted_seen c.args.tags.now c.args.value.now (reverse c.args.log.now.notes.items) c.requires.can ∙ c.requires.unnoted)
