use Rattle.sk_undo.proofs.Cites.{subst, reverse, nat_cmp, IsStrictlySortedBy, undone}
use Rattle.sk_undo.proofs.SeenNotes.{tags_seen}
use Rattle.sk_undo.proofs.slot.goes_on.Goals as goal

pub returns-clause-rising : goal.returns-clause-rising
returns-clause-rising c = subst (IsStrictlySortedBy nat_cmp) (tags_seen undone c.args.value.now (reverse c.args.log.now.notes.items)) c.goes_on.ensures.rising
