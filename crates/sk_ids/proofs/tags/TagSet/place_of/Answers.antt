-- The search tells whether the guess is there.
use Rattle.sk_ids.proofs.Names.{sym, ◌∙◌, ap, subst, is_some, nat_cmp, IsBinarySearchResult, has}
use Rattle.sk_ids.proofs.Searches.{tells}
use Rattle.sk_ids.proofs.tags.TagSet.place_of.Goals as goal

pub returns-clause-none : goal.returns-clause-none
returns-clause-none c none =
    let xs = c.self.inside.ids in
    let there = subst (λ ys. IsBinarySearchResult (λ y. nat_cmp y c.args.id) ys c.binary_search.result) c.as_slice-ids.ensures c.binary_search.ensures.position in
    ap (has c.args.id) (sym c.self.view_is) ∙ sym (tells c.args.id xs c.self.invariant c.binary_search.result there) ∙ sym c.ok.ensures.variant ∙ ap is_some none
