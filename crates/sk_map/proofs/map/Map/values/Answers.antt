-- The keys rise, so the values are those of the finite map that the entries make.
use Rattle.sk_map.proofs.Names.{ap, sym, subst, ◌∙◌, map, keys, IsTotalOrder, entries_view, seen}
use Rattle.std.specs.FinMap as fin
use Rattle.sk_map.proofs.Keys.{rising}
use Rattle.sk_map.proofs.map.Map.values.Goals as goal

pub returns-clause-rest : goal.returns-clause-rest
returns-clause-rest g c =
    let same = g.met.K.Key.same in
    let es = c.self.inside.entries.entries in
    c.values.ensures.rest
    ∙ ap (map (λ e. e.1)) (sym (entries_view (subst IsTotalOrder same g.met.K.Ord.total) es (rising same (keys c.self.inside.entries) c.values.ensures.ordered)))
    ∙ ap (λ fs. fin.values (seen g.K.Key.order fs)) c.self.view_is
