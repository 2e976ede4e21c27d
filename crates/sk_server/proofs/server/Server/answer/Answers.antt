-- The request that is lent is the one that was given.
use Rattle.sk_server.proofs.Names.{◌≡◌, Ok, Err, refl, ◌∙◌, ap, subst, request_in, said, Decides, Request}
use Rattle.sk_server.proofs.server.Server.answer.Goals as goal

pub returns-in-Ok : goal.returns-in-Ok
returns-in-Ok c =
    let same : request_in c.lent_with-lent.result ≡ c.args.request = c.lent_with-lent.ensures ∙ (λ i. record c.args.request { ask = c.lent-ask.ensures i }) in
    let done = subst (λ (q : Request). Decides c.args.self.now q (Ok c.in-Ok.verdict) c.decide.new.self) same c.in-Ok.ensures in
    let told = c.answer_of-answer.ensures ∙ ap (λ (q : Request). said c.decide.new.self.files q.ask c.in-Ok.verdict) same ∙ done.1 in
    (done.0, (λ i. record { number = (same i).number; answer = told i }), done.2)

pub returns-in-Err : goal.returns-in-Err
returns-in-Err c =
    let same : request_in c.lent_with-lent.result ≡ c.args.request = c.lent_with-lent.ensures ∙ (λ i. record c.args.request { ask = c.lent-ask.ensures i }) in
    let refused = subst (λ (q : Request). Decides c.args.self.now q (Err c.in-Err.why) c.decide.new.self) same c.in-Err.ensures in
    (refl, refused.0, refused.1)
