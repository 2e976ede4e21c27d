-- The keys of the places rise.
use Rattle.sk_plain_store.proofs.Names.{◌≡◌, true, subst, is_sorted, bytes_cmp}
use Rattle.sk_plain_store.proofs.Placed.{in_order}
use Rattle.sk_plain_store.proofs.store.PlainStore.into_entries.Goals as goal

pub returns-in_err-push-clause-rising : goal.returns-in_err-push-clause-rising
returns-in_err-push-clause-rising c =
    subst (λ es. is_sorted bytes_cmp es ≡ true) c.self.view_is
    (in_order c.self.inside.places.entries c.into_iter-key-iterator.ensures.into_iter_gives.5)

pub returns-clause-rising : goal.returns-clause-rising
returns-clause-rising c =
    subst (λ es. is_sorted bytes_cmp es ≡ true) c.self.view_is
    (in_order c.self.inside.places.entries c.into_iter-key-iterator.ensures.into_iter_gives.5)
