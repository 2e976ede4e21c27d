-- What is sorted and each once is the set of all.
use Rattle.sk_guesses.proofs.Names.{◌∙◌, [], sym, ap, subst, with_entities}
use Rattle.std.specs.List.{dedup}
use Rattle.std.specs.List.Sorted.{IsStrictlySortedBy}
use Rattle.std.proofs.lemmas.List.Filters.{dedup_is}
use Rattle.sk_guesses.proofs.Sorted.{sorted_rise, sorted_set}
use Rattle.sk_guesses.proofs.entity_set.EntitySet.of.Goals as goal

pub invariant_of-result : goal.invariant_of-result
invariant_of-result g c =
    let same = g.met.E.Key.same in
    let ys = c.sort_unstable.new.self.items in
    subst (IsStrictlySortedBy g.E.Key.order) (sym (dedup_is _ _ _ c.dedup.ensures.filtered))
    (subst (λ cmp. IsStrictlySortedBy cmp (dedup g.E.PartialEq.eq c.sort_unstable.new.self.items)) same (sorted_rise g.met.E.Ord.total g.met.E.Key.exact _ g.met.E.Ord.matches_eq c.args.entities.items ys c.sort_unstable.ensures.sorted))

pub returns : goal.returns
returns g c =
    let same = g.met.E.Key.same in
    dedup_is _ _ _ c.dedup.ensures.filtered
    ∙ sorted_set g.met.E.Ord.total g.met.E.Key.exact _ g.met.E.Ord.matches_eq c.args.entities.items c.sort_unstable.new.self.items c.sort_unstable.ensures.permutation c.sort_unstable.ensures.sorted
    ∙ ap (λ cmp. with_entities cmp [] c.args.entities.items) same
