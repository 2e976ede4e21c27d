-- The request depends on one of those that are remembered, where it can and does depend on one of all.
use Rattle.sk_server.proofs.Names.{◌≡◌, ℕ, nat_le, ◌&&◌, ap, sym, ◌∙◌, rules, tests, list_any, YieldsList-from_slice}
use Rattle.sk_server.proofs.Names.{any_from_yields_List, has, is_dropped, remembered, request_in}
use Rattle.sk_server.proofs.Remembered.{any_left}
use Rattle.sk_server.proofs.server.Server.is_dropped.Goals as goal

pub returns : goal.returns
returns c =
    let q = request_in c.args.request.now in
    let found : c.any.result ≡ list_any (λ (g : ℕ). nat_le q.settled g && has g q.rests) c.self.inside.refused.items =
    any_from_yields_List (λ (g : ℕ). nat_le q.settled g && has g q.rests) _ _ c.any.result c.any.ensures.ran
    (YieldsList-from_slice c.self.inside.refused.items cc) (λ x b f k. search (rules, tests)) in
    found
    ∙ sym (any_left (λ (g : ℕ). nat_le q.settled g) (λ g. has g q.rests) c.self.inside.refused.items)
    ∙ ap (λ s. is_dropped q (remembered q s.refused)) c.self.view_is
