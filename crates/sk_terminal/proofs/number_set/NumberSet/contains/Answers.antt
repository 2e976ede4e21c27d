-- The search tells.
use Rattle.sk_terminal.proofs.Names.{◌∙◌, ap, subst, nat_cmp, IsBinarySearchResult, has, tells}
use Rattle.sk_terminal.proofs.number_set.NumberSet.contains.Goals as goal

pub returns : goal.returns
returns c =
    let xs = c.self.inside.numbers.items in
    let there = subst (λ ys. IsBinarySearchResult (λ y. nat_cmp y c.args.number) ys c.binary_search.result) c.as_slice.ensures.value c.binary_search.ensures.position in
    c.is_ok.ensures.value ∙ tells c.args.number xs c.self.invariant c.binary_search.result there ∙ ap (has c.args.number) c.self.view_is
