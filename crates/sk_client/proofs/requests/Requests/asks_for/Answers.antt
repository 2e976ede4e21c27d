-- Each of the queue is taken or waits.
use Rattle.sk_client.proofs.Names.{rules, tests, ◌≡◌, ◌++◌, ◌∙◌, ap, Bool, ◌&&◌, ◌==◌, list_any, YieldsList-from_deque}
use Rattle.sk_client.proofs.Names.{any_from_yields_List, is_asked, asks_for, RequestsView, PendingRequest, Queued}
use Rattle.sk_client.proofs.Desks.{any_of, none_of}
use Rattle.sk_client.proofs.requests.Requests.asks_for.Goals as goal

pub returns : goal.returns
returns c =
    let items = c.self.inside.queue.items in
    let asks : PendingRequest → Bool = λ q. is_asked q && (q.process == c.args.pid) in
    let any : c.any.result ≡ list_any (λ (q : Queued). asks q.request) items =
    any_from_yields_List (λ (q : Queued). asks q.request) _ _ c.any.result c.any.ensures.ran (YieldsList-from_deque items cc) (λ x b f k. search (rules, tests)) in
    any ∙ any_of asks c.self.inside.taken items ∙ ap (λ (r : RequestsView). asks_for c.args.pid (r.taken ++ r.waiting)) c.self.view_is

pub returns-then-self-eq0 : goal.returns-then-self-eq0
returns-then-self-eq0 c =
    let inside = c.self.inside in
    none_of (λ (q : PendingRequest). q.process == c.args.pid) inside.asked inside.taken inside.queue.items c.self.invariant.counted c.if-self-eq0.true
    ∙ ap (λ (r : RequestsView). asks_for c.args.pid (r.taken ++ r.waiting)) c.self.view_is
