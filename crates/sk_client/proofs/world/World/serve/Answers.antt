-- The oldest request that waits is in turn at the server; answered, it has its reply, and refused, it is handed back.
use Rattle.sk_client.proofs.Names.{◌≡◌, Option, Some, refl, sym, ◌∙◌, subst, Request, request_in, DeskView, sent}
use Rattle.sk_client.proofs.Names.{first_sent, first_taken, IsJoined}
use Rattle.sk_client.proofs.Desks.{none_is, next_joined, answer_joined, back_joined}
use Rattle.sk_client.proofs.world.World.serve.Goals as goal

pub invariant_of-self : goal.invariant_of-self
invariant_of-self c =
    let desk = c.self.inside.desk in
    let server = c.self.inside.server in
    let replies = c.self.inside.replies.items in
    let left = first_taken desk desk.waiting in
    let none = sym c.if-is_some.ensures in
    let first : first_sent desk.waiting ≡ Some (sent c.in-Some.waiting.now) = sym c.in-Some.ensures in
    let same : request_in c.lent_with-lent.result ≡ sent c.in-Some.waiting.now = c.lent_with-lent.ensures ∙ (λ i. record (sent c.in-Some.waiting.now) { ask = c.ask.ensures i }) in
    let joined = subst (λ (q : Request). IsJoined left server replies (Some q)) (sym same) (next_joined server replies c.self.inside.back desk desk.waiting (sent c.in-Some.waiting.now) none refl first c.self.invariant) in
    let done = answer_joined left server c.answer_with.new.server replies c.answer_with.new.replies.items (request_in c.lent_with-lent.result) c.in-Ok.ensures.1 c.in-Ok.ensures.0 joined in
    subst (λ (d : DeskView). IsJoined d c.answer_with.new.server c.answer_with.new.replies.items c.self.inside.back) (sym c.take_unsent.ensures)
    (subst (λ (o : Option Request). IsJoined left c.answer_with.new.server c.answer_with.new.replies.items o) (sym (none_is c.self.inside.back none)) done)

pub invariant_of-self-in-Err : goal.invariant_of-self-in-Err
invariant_of-self-in-Err c =
    let desk = c.self.inside.desk in
    let server = c.self.inside.server in
    let replies = c.self.inside.replies.items in
    let first : first_sent desk.waiting ≡ Some (sent c.in-Some.waiting.now) = sym c.in-Some.ensures in
    let joined = next_joined server replies c.self.inside.back desk desk.waiting (sent c.in-Some.waiting.now) (sym c.if-is_some.ensures) refl first c.self.invariant in
    let kept = back_joined (first_taken desk desk.waiting) server c.answer_with.new.server replies c.answer_with.new.replies.items (Some (sent c.in-Some.waiting.now)) c.in-Err.ensures.1 c.in-Err.ensures.2 joined in
    subst (λ (d : DeskView). IsJoined d c.answer_with.new.server c.answer_with.new.replies.items c.take_back.new.back) (sym c.take_back.ensures.taken)
    (subst (λ (o : Option Request). IsJoined (first_taken desk desk.waiting) c.answer_with.new.server c.answer_with.new.replies.items o) (sym (c.take_back.ensures.request ∙ first)) kept)
