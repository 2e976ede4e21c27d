-- The oldest that waits follows those that were taken.
use Rattle.sk_client.proofs.Names.{◌≡◌, ◌∷◌, drop, subst, RequestsView}
use Rattle.sk_client.proofs.Desks.{first_waits}
use Rattle.sk_client.proofs.requests.Requests.first_waiting.Goals as goal

pub returns : goal.returns
returns c =
    let oldest = c.in_ok-oldest.oldest.now in
    subst (λ (r : RequestsView). r.waiting ≡ oldest.request ∷ drop 1 r.waiting) c.self.view_is
    (first_waits c.self.inside.taken c.self.inside.queue.items oldest c.in_ok-oldest.ensures.item.3.0 c.in_ok-oldest.ensures.lookup)
