-- The keys rise, so they are those of the finite map that the entries make.
use Rattle.sk_map.proofs.Names.{ap, sym, subst, ◌∙◌, map, keys, IsTotalOrder, IsStrictlySortedBy, entries_view, seen}
use Rattle.std.specs.FinMap as fin
use Rattle.sk_map.proofs.Keys.{rising}
use Rattle.sk_map.proofs.map.Map.keys.Goals as goal

pub returns-clause-rest : goal.returns-clause-rest
returns-clause-rest g c =
    let same = g.met.K.Key.same in
    let es = c.self.inside.entries.entries in
    c.keys.ensures.rest
    ∙ ap (map (λ e. e.0)) (sym (entries_view (subst IsTotalOrder same g.met.K.Ord.total) es (rising same (keys c.self.inside.entries) c.keys.ensures.ordered)))
    ∙ ap (λ fs. fin.keys (seen g.K.Key.order fs)) c.self.view_is

pub returns-clause-rising : goal.returns-clause-rising
returns-clause-rising g c =
    subst (IsStrictlySortedBy g.K.Key.order) (sym c.keys.ensures.rest) (rising g.met.K.Key.same (keys c.self.inside.entries) c.keys.ensures.ordered)
