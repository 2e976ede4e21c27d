-- The oldest that waits is the newest that was taken.
use Rattle.sk_client.proofs.Names.{rules, ◌≡◌, ◌++◌, take, drop, Some, None, sym, ◌∙◌, ap, first_sent, RequestsView}
use Rattle.sk_client.proofs.Desks.{waits, whole_here, taken_one, waiting_fewer, taken_is}
use Rattle.sk_client.proofs.requests.Requests.take.Goals as goal

pub unreachable-requires : goal.unreachable-requires
unreachable-requires c =
    let oldest = c.in_ok-oldest.oldest.now in
    let whole : oldest.again ≡ Some oldest.request.rests =
    whole_here c.self.inside.taken c.self.inside.queue.items oldest c.in_ok-oldest.ensures.item.3.0 c.in_ok-oldest.ensures.value c.self.invariant.whole in
    let none : c.take.result ≡ None = search rules in
    let both : None ≡ Some oldest.request.rests = sym none ∙ c.take.ensures.value ∙ whole in
    absurd cc

pub sent-requires : goal.sent-requires
sent-requires c =
    let oldest = c.in_ok-oldest.oldest.now in
    let whole : oldest.again ≡ Some oldest.request.rests =
    whole_here c.self.inside.taken c.self.inside.queue.items oldest c.in_ok-oldest.ensures.item.3.0 c.in_ok-oldest.ensures.value c.self.invariant.whole in
    let both : Some c.in-Some.rests ≡ Some oldest.request.rests = c.in-Some.ensures.value ∙ whole in
    cc

pub invariant_of-self-2 : goal.invariant_of-self-2
invariant_of-self-2 c =
    taken_is c.self.inside.taken c.self.inside.queue.items c.in_ok-oldest.oldest.now c.in_ok-oldest.ensures.item.3.0 c.in_ok-oldest.ensures.value c.take.new.self c.self.inside.asked c.self.invariant

pub returns-clause-request : goal.returns-clause-request
returns-clause-request c =
    ap (λ q. Some q) c.sent.ensures
    ∙ sym (ap first_sent (waits c.self.inside.taken c.self.inside.queue.items c.in_ok-oldest.oldest.now c.in_ok-oldest.ensures.item.3.0 c.in_ok-oldest.ensures.value))
    ∙ ap (λ (r : RequestsView). first_sent r.waiting) c.self.view_is

pub returns-clause-taken : goal.returns-clause-taken
returns-clause-taken c =
    taken_one c.self.inside.taken c.self.inside.queue.items c.in_ok-oldest.oldest.now c.in_ok-oldest.ensures.item.3.0 c.in_ok-oldest.ensures.value c.take.new.self
    ∙ ap (λ (r : RequestsView). r.taken ++ take 1 r.waiting) c.self.view_is

pub returns-clause-waiting : goal.returns-clause-waiting
returns-clause-waiting c =
    waiting_fewer c.self.inside.taken c.self.inside.queue.items c.in_ok-oldest.oldest.now c.in_ok-oldest.ensures.item.3.0 c.in_ok-oldest.ensures.value c.take.new.self
    ∙ ap (λ (r : RequestsView). drop 1 r.waiting) c.self.view_is
