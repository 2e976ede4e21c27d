-- Those that `retain` keeps, and then the new one.
use Rattle.sk_server.proofs.Names.{◌≡◌, ℕ, Option, is_some, List, [], ◌∷◌, ◌++◌, ap, sym, ◌∙◌, arith, rules}
use Rattle.sk_server.proofs.Names.{filter_same, append-nil, remembered, marks, request_in}
use Rattle.sk_server.proofs.server.remember.Goals as goal
use Rattle.sk_server.proofs.server.remember.Goals.{After-retain}

kept : (c : After-retain) → c.retain.new.self.items ≡ remembered (request_in c.args.request.now) c.args.refused.now.items
kept c = filter_same _ _ _ (λ x b g h. search rules) _ _ c.retain.ensures.filtered

pub push_reserved-requires : goal.push_reserved-requires
push_reserved-requires c =
    let room = c.requires (ap is_some c.in-Some.is) in
    omega arith

pub returns-in-Some : goal.returns-in-Some
returns-in-Some c =
    let all = remembered (request_in c.args.request.now) c.args.refused.now.items in
    c.push_reserved.ensures.items
    ∙ ap (λ (xs : List ℕ). xs ++ c.in-Some.guess ∷ []) (kept (goal.at.returns-in-Some c).After-retain)
    ∙ ap (λ (o : Option ℕ). all ++ marks o) (sym c.in-Some.is)

pub returns-in_default : goal.returns-in_default
returns-in_default c =
    let all = remembered (request_in c.args.request.now) c.args.refused.now.items in
    kept (goal.at.returns-in_default c).After-retain
    ∙ sym (append-nil all)
    ∙ ap (λ (o : Option ℕ). all ++ marks o) (sym c.in_default.is)
