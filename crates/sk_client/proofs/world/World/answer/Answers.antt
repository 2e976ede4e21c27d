-- The request that was handed back is in turn; answered, it has its reply.
use Rattle.sk_client.proofs.Names.{◌≡◌, Option, Some, None, Ok, sym, ◌∙◌, ap, subst, Request, request_in, WorldView}
use Rattle.sk_client.proofs.Names.{IsJoined, ServesNext, served}
use Rattle.sk_client.proofs.Desks.{answer_joined}
use Rattle.sk_client.proofs.world.World.answer.Goals as goal

pub invariant_of-self-2 : goal.invariant_of-self-2
invariant_of-self-2 c =
    let desk = c.self.inside.desk in
    let server = c.self.inside.server in
    let replies = c.self.inside.replies.items in
    let same : request_in c.lent_with-lent.result ≡ c.in-Some.request = c.lent_with-lent.ensures ∙ (λ i. record c.in-Some.request { ask = c.lent.ensures i }) in
    let joined = subst (λ (o : Option Request). IsJoined desk server replies o) c.in-Some.is c.self.invariant in
    answer_joined desk server c.answer_with.new.server replies c.answer_with.new.replies.items (request_in c.lent_with-lent.result) c.in_ok-answer_with.ensures.1 c.in_ok-answer_with.ensures.0
    (subst (λ (q : Request). IsJoined desk server replies (Some q)) (sym same) joined)

pub returns : goal.returns
returns c =
    let inside = c.self.inside in
    let same : request_in c.lent_with-lent.result ≡ c.in-Some.request = c.lent_with-lent.ensures ∙ (λ i. record c.in-Some.request { ask = c.lent.ensures i }) in
    let before : WorldView = record { desk = inside.desk; server = inside.server; replies = inside.replies.items; back = inside.back } in
    let after : WorldView = record { desk = inside.desk; server = c.answer_with.new.server; replies = c.answer_with.new.replies.items; back = None } in
    let done : after ≡ served before (request_in c.lent_with-lent.result) = (λ i. record { desk = inside.desk; server = c.in_ok-answer_with.ensures.0 i; replies = c.in_ok-answer_with.ensures.1 i; back = None }) in
    subst (λ (w : WorldView). ServesNext (Ok tt) w after w.back) c.self.view_is
    (subst (λ (b : Option Request). ServesNext (Ok tt) before after b) (sym c.in-Some.is) (done ∙ ap (served before) same))
