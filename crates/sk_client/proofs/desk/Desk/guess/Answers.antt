-- One request more, with its guess, and for which room was made; a guess that the desk does not refuse, the kernel does not refuse.
use Rattle.sk_client.proofs.Names.{◌≡◌, List, ◌∷◌, ◌++◌, [], length, ℕ, Some, None, cond, sym, ◌∙◌, ap, subst}
use Rattle.sk_client.proofs.Names.{vec_capacity, cause, guess_refused, next_guess, HolderView, TooMany, ask_of}
use Rattle.sk_client.proofs.Names.{DeskView, entry, no_number, PendingRequest, Input}
use Rattle.sk_client.proofs.Desks.{tidy_more, same_guess_refusal}
use Rattle.sk_client.proofs.desk.Desk.guess.Goals as goal

pub invariant_of-self-2 : goal.invariant_of-self-2
invariant_of-self-2 c =
    let inside = c.self.inside in
    let held : List ℕ = inside.holder.held in
    let r = c.request.inside in
    let q : PendingRequest = record { number = r.number; process = r.process; ask = ask_of r.ask; guess = Some c.in-Ok-guess.id; rests = r.rests; settled = r.settled } in
    let more = ap (λ (h : HolderView). h.held) c.in-Ok-guess.ensures.2 ∙ ap (λ (g : ℕ). held ++ g ∷ []) (sym c.in-Ok-guess.ensures.1) in
    tidy_more held c.guess.new.self.held inside.requests.taken inside.requests.waiting q c.push.new.self.taken c.push.new.self.waiting
    (length inside.kept.items) (length c.make_room.new.kept.items) (vec_capacity inside.kept) (vec_capacity c.make_room.new.kept)
    c.self.invariant more (c.push.ensures.taken ∙ c.in-Ok-make_room.ensures.taken)
    (c.push.ensures.waiting ∙ ap (λ (qs : List PendingRequest). qs ++ q ∷ []) c.in-Ok-make_room.ensures.waiting)
    (ap length c.in-Ok-make_room.ensures.kept) c.in-Ok-make_room.ensures.answer

pub returns-in-Err : goal.returns-in-Err
returns-in-Err c =
    let numbered : no_number c.args.self.now ≡ None = ap (λ b. cond b (Some TooMany) None) (sym c.is_numbered_out.ensures ∙ c.if-is_numbered_out.false) in
    let refused =
    subst (λ (d : DeskView). guess_refused d.kernel (entry c.args.pid Input.Good (Some (next_guess d.kernel))) ≡ cause c.in-Err.why) c.self.view_is c.in-Err.ensures.0 in (
      same_guess_refusal c.args.self.now c.free_places.result c.free_places.ensures c.args.pid c.if-free_places-lt2.false numbered ∙ refused,
      (λ i. record {
        kernel = (c.in-Err.ensures.1 i).kernel;
        taken = c.in-Ok-make_room.ensures.taken i;
        waiting = c.in-Ok-make_room.ensures.waiting i;
        first = c.self.inside.first;
        next = c.self.inside.next;
        kept = c.in-Ok-make_room.ensures.kept i;
      })
          ∙ c.self.view_is,
    )
