-- The oldest of the queue was taken.
use Rattle.sk_client.proofs.Names.{rules, ℕ, ◌-◌, ◌≡◌, ◌∷◌, List, take, drop, sym, ◌∙◌, ap, subst, arith, RequestsView, IsQueue}
use Rattle.sk_client.proofs.Names.{requests_in, Queued}
use Rattle.sk_client.proofs.Desks.{one_counted, out_is, out_taken, out_waiting}
use Rattle.sk_client.proofs.requests.Requests.pop_taken.Goals as goal

pub overflow_sub-self-2 : goal.overflow_sub-self-2
overflow_sub-self-2 c =
    let parts : c.self.inside.queue.items ≡ c.in_ok-request.field-0 ∷ c.pop_front.new.self.items = search rules in
    let asked = c.self.inside.asked in
    let sum = one_counted c.self.inside.taken c.in_ok-request.field-0 c.pop_front.new.self.items (omega (arith, c.if-self-eq0.false)) asked
    (subst (IsQueue c.self.inside.taken asked) parts c.self.invariant) in
    omega (arith, sum, c.places.ensures)

pub invariant_of-self-2 : goal.invariant_of-self-2
invariant_of-self-2 c =
    let taken = c.self.inside.taken in
    let asked = c.self.inside.asked in
    let rest = c.pop_front.new.self.items in
    let parts : c.self.inside.queue.items ≡ c.in_ok-request.field-0 ∷ rest = search rules in
    let left = out_is taken c.in_ok-request.field-0 rest (omega (arith, c.if-self-eq0.false)) asked (subst (IsQueue taken asked) parts c.self.invariant) in
    subst (λ (k : ℕ). IsQueue (taken - 1) (asked - k) rest) (sym c.places.ensures) left

pub returns-clause-items : goal.returns-clause-items
returns-clause-items c =
    let taken = c.self.inside.taken in
    let parts : c.self.inside.queue.items ≡ c.in_ok-request.field-0 ∷ c.pop_front.new.self.items = search rules in
    sym (ap (λ (r : RequestsView). r.taken) c.self.view_is) ∙ ap (λ (qs : List Queued). take taken (requests_in qs)) parts
    ∙ out_taken taken c.in_ok-request.field-0 c.pop_front.new.self.items (omega (arith, c.if-self-eq0.false))

pub returns-clause-waiting : goal.returns-clause-waiting
returns-clause-waiting c =
    let taken = c.self.inside.taken in
    let parts : c.self.inside.queue.items ≡ c.in_ok-request.field-0 ∷ c.pop_front.new.self.items = search rules in
    sym (ap (λ (qs : List Queued). drop taken (requests_in qs)) parts ∙ out_waiting taken c.in_ok-request.field-0 c.pop_front.new.self.items (omega (arith, c.if-self-eq0.false)))
    ∙ ap (λ (r : RequestsView). r.waiting) c.self.view_is
