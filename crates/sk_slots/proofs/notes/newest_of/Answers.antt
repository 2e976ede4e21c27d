-- The newest note is the last.
use Rattle.sk_slots.proofs.Undoing.{newest}
use Rattle.sk_slots.proofs.notes.newest_of.Goals as goal

pub returns-in-Some : goal.returns-in-Some
returns-in-Some g c = newest c.args.log.now c.in-Some.newest.now c.in-Some.ensures.item.3.0 c.in-Some.ensures.item.3.1
