-- The oldest of the queue was taken.
use Rattle.sk_client.proofs.Names.{◌≡◌, ◌∷◌, drop, subst, arith, RequestsView}
use Rattle.sk_client.proofs.Desks.{first_of}
use Rattle.sk_client.proofs.requests.Requests.first_taken.Goals as goal

pub returns : goal.returns
returns c =
    let oldest = c.in_ok-oldest.oldest.now in
    subst (λ (r : RequestsView). r.taken ≡ oldest.request ∷ drop 1 r.taken) c.self.view_is
    (first_of c.self.inside.taken c.self.inside.queue.items oldest (omega (arith, c.if-self-eq0.false)) c.in_ok-oldest.ensures.item.3.0 c.in_ok-oldest.ensures.lookup)
