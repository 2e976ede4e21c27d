-- The newest note is the last.
use Rattle.sk_slots.proofs.Names.{◌∙◌, ap, same_tags}
use Rattle.sk_slots.proofs.Undoing.{newest}
use Rattle.sk_slots.proofs.notes.goes_unnoted.Goals as goal

pub returns-in-Some : goal.returns-in-Some
returns-in-Some g c = c.is_same.ensures ∙ ap (same_tags c.args.tags.now) (newest c.args.log.now c.in-Some.newest.now c.in-Some.ensures.item.3.0 c.in-Some.ensures.item.3.1)
