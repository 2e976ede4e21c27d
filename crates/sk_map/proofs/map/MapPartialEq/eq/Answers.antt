-- The test of the entries is that of the maps, which is exact where that of the values is.
use Rattle.sk_map.proofs.Names.{subst, ◌∙◌, Decides-at, keys, IsTotalOrder, same_map, exact_map, same_entries, seen}
use Rattle.sk_map.proofs.Keys.{rising, exact_key}
use Rattle.sk_map.proofs.map.MapPartialEq.eq.Goals as goal

pub returns-clause-computed : goal.returns-clause-computed
returns-clause-computed g c =
    let same = g.met.K.Key.same in
    let E = g.K.PartialEq.eq in
    let F = g.V.PartialEq.eq in
    c.eq.ensures
    ∙ same_entries (subst IsTotalOrder same g.met.K.Ord.total) E F c.self.inside.entries.entries c.other.inside.entries.entries
    (rising same (keys c.self.inside.entries) c.len.ensures.ordered) (rising same (keys c.other.inside.entries) c.len-2.ensures.ordered)
    ∙ (λ i. same_map E F (seen g.K.Key.order (c.self.view_is i)) (seen g.K.Key.order (c.other.view_is i)))

pub returns-clause-exact : goal.returns-clause-exact
returns-clause-exact g c each =
    let m = seen g.K.Key.order c.args.self.now in
    let n = seen g.K.Key.order c.args.other.now in
    let key = exact_key g.met.K.Ord.total g.met.K.Key.exact g.met.K.Ord.matches_eq in
    Decides-at c.eq.result (same_map g.K.PartialEq.eq g.V.PartialEq.eq m n) (returns-clause-computed g c) (exact_map key each m n)
