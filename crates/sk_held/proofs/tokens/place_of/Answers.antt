-- The search among tokens is one among their numbers.
use Rattle.sk_held.proofs.Names.{rules, ◌≡◌, Some, sym, ◌∙◌, subst, slice_get, nat_cmp, IfSome, IsBinarySearchResult}
use Rattle.sk_held.proofs.Names.{answers_always, Token, tells, ids}
use Rattle.sk_held.proofs.Found.{among_numbers, there}
use Rattle.sk_held.proofs.tokens.place_of.Goals as goal

pub returns-clause-there : goal.returns-clause-there
returns-clause-there c =
    let by_key : IsBinarySearchResult (λ (t : Token). nat_cmp t.id c.args.guess) c.args.tokens.now c.binary_search_by_key.result =
    c.binary_search_by_key.ensures.position (λ t. t.id) (answers_always _ _ _ (λ f a r g called. search rules)) in
    subst (λ o. IfSome o (λ place. slice_get (ids c.args.tokens.now) place ≡ Some c.args.guess)) (sym c.ok.ensures.value)
    (there c.args.guess c.args.tokens.now c.binary_search_by_key.result c.binary_search_by_key.ensures.bound by_key)

pub returns-clause-held : goal.returns-clause-held
returns-clause-held c =
    let by_key : IsBinarySearchResult (λ (t : Token). nat_cmp t.id c.args.guess) c.args.tokens.now c.binary_search_by_key.result =
    c.binary_search_by_key.ensures.position (λ t. t.id) (answers_always _ _ _ (λ f a r g called. search rules)) in
    c.ok.ensures.variant
    ∙ tells c.args.guess (ids c.args.tokens.now) c.requires c.binary_search_by_key.result (among_numbers c.args.guess c.args.tokens.now c.binary_search_by_key.result by_key)
