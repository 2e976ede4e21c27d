-- Each of the queue is taken or waits.
use Rattle.sk_client.proofs.Names.{rules, tests, ◌≡◌, ◌++◌, ◌∙◌, ap, Bool, ◌&&◌, bytes_eq, list_any}
use Rattle.sk_client.proofs.Names.{YieldsList-from_deque, any_from_yields_List, is_asked, asked_name, asks_on}
use Rattle.sk_client.proofs.Names.{RequestsView, PendingRequest, Queued}
use Rattle.sk_client.proofs.Desks.{any_of, none_of}
use Rattle.sk_client.proofs.requests.Requests.asks_on.Goals as goal

pub returns : goal.returns
returns c =
    let items = c.self.inside.queue.items in
    let asks : PendingRequest → Bool = λ q. is_asked q && bytes_eq (asked_name q.ask) c.args.name.now in
    let any : c.any.result ≡ list_any (λ (q : Queued). asks q.request) items =
    any_from_yields_List (λ (q : Queued). asks q.request) _ _ c.any.result c.any.ensures.ran (YieldsList-from_deque items cc) (λ x b f k. search (rules, tests)) in
    any ∙ any_of asks c.self.inside.taken items ∙ ap (λ (r : RequestsView). asks_on c.args.name.now (r.taken ++ r.waiting)) c.self.view_is

pub returns-then-self-eq0 : goal.returns-then-self-eq0
returns-then-self-eq0 c =
    let inside = c.self.inside in
    none_of (λ (q : PendingRequest). bytes_eq (asked_name q.ask) c.args.name.now) inside.asked inside.taken inside.queue.items c.self.invariant.counted c.if-self-eq0.true
    ∙ ap (λ (r : RequestsView). asks_on c.args.name.now (r.taken ++ r.waiting)) c.self.view_is
