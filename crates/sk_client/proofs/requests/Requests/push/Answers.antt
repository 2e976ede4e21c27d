-- It has what it depends on once more, and is counted where its process waits.
use Rattle.sk_client.proofs.Names.{rules, length-map, requests_in, ℕ, ◌+◌, ◌∷◌, ◌++◌, [], List, Some, sym, ap, subst, Queued, IsQueue}
use Rattle.sk_client.proofs.Desks.{few, more_is}
use Rattle.sk_client.proofs.requests.Requests.push.Goals as goal

pub overflow_add-self : goal.overflow_add-self
overflow_add-self c =
    let items = c.self.inside.queue.items in
    let counted = c.self.invariant.counted in
    let le = few (requests_in items) in
    let long = length-map items (λ (q : Queued). q.request) in
    let one = c.places.ensures in
    let single = few (c.args.request ∷ []) in
    let short = c.len-few.ensures in
    search (rules, counted, le, long, one, single, short)

pub invariant_of-self : goal.invariant_of-self
invariant_of-self c =
    let inside = c.self.inside in
    let one : Queued = record { request = c.args.request; again = Some c.args.again } in
    let all : List Queued = inside.queue.items ++ one ∷ [] in
    let more = more_is inside.taken inside.asked inside.queue.items one c.self.invariant (ap (λ rests. Some rests) c.requires.again) in
    let counted = subst (λ (k : ℕ). IsQueue inside.taken (inside.asked + k) all) (sym c.places.ensures) more in
    subst (λ (qs : List Queued). IsQueue inside.taken (inside.asked + c.places.result) qs) (sym {A = List Queued} c.push_back_reserved.ensures.items) counted
