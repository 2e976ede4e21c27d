-- One request more, which has no guess, and for which room was made.
use Rattle.sk_client.proofs.Names.{List, ◌∷◌, ◌++◌, [], length, ℕ, sym, ◌∙◌, ap, vec_capacity, append-nil, marks}
use Rattle.sk_client.proofs.Names.{PendingRequest}
use Rattle.sk_client.proofs.Desks.{tidy_more}
use Rattle.sk_client.proofs.desk.Desk.ask.Goals as goal

pub invariant_of-self-2 : goal.invariant_of-self-2
invariant_of-self-2 c =
    let inside = c.self.inside in
    let held : List ℕ = inside.holder.held in
    let q : PendingRequest = c.in-Ok.request in
    let none = ap (λ (q : PendingRequest). held ++ marks q.guess) c.in-Ok.ensures.request in
    tidy_more held held inside.requests.taken inside.requests.waiting q c.push.new.self.taken c.push.new.self.waiting
    (length inside.kept.items) (length c.make_room.new.kept.items) (vec_capacity inside.kept) (vec_capacity c.make_room.new.kept)
    c.self.invariant (sym (append-nil held) ∙ sym none) (c.push.ensures.taken ∙ c.in-Ok-make_room.ensures.taken)
    (c.push.ensures.waiting ∙ ap (λ (qs : List PendingRequest). qs ++ q ∷ []) c.in-Ok-make_room.ensures.waiting)
    (ap length c.in-Ok-make_room.ensures.kept) c.in-Ok-make_room.ensures.answer
