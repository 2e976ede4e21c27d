-- Each of the queue is taken or waits.
use Rattle.sk_client.proofs.Names.{◌++◌, ◌∙◌, ap, asked_count, RequestsView}
use Rattle.sk_client.proofs.Desks.{count_of}
use Rattle.sk_client.proofs.requests.Requests.asked.Goals as goal

pub returns : goal.returns
returns c =
    let inside = c.self.inside in
    count_of inside.asked inside.taken inside.queue.items c.self.invariant.counted ∙ ap (λ (r : RequestsView). asked_count (r.taken ++ r.waiting)) c.self.view_is
