-- The oldest that waits is the newest that was taken.
use Rattle.sk_client.proofs.Names.{◌++◌, take, drop, None, ◌∙◌, ap, RequestsView}
use Rattle.sk_client.proofs.Desks.{taken_one, waiting_fewer, taken_is}
use Rattle.sk_client.proofs.requests.Requests.take_unsent.Goals as goal

pub invariant_of-self : goal.invariant_of-self
invariant_of-self c =
    taken_is c.self.inside.taken c.self.inside.queue.items c.in-Some.oldest.now c.in-Some.ensures.item.3.0 c.in-Some.ensures.value None c.self.inside.asked c.self.invariant

pub returns-in-Some-clause-taken : goal.returns-in-Some-clause-taken
returns-in-Some-clause-taken c =
    taken_one c.self.inside.taken c.self.inside.queue.items c.in-Some.oldest.now c.in-Some.ensures.item.3.0 c.in-Some.ensures.value None
    ∙ ap (λ (r : RequestsView). r.taken ++ take 1 r.waiting) c.self.view_is

pub returns-in-Some-clause-waiting : goal.returns-in-Some-clause-waiting
returns-in-Some-clause-waiting c =
    waiting_fewer c.self.inside.taken c.self.inside.queue.items c.in-Some.oldest.now c.in-Some.ensures.item.3.0 c.in-Some.ensures.value None
    ∙ ap (λ (r : RequestsView). drop 1 r.waiting) c.self.view_is
