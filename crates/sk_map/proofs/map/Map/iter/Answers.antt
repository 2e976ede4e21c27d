-- The keys rise, so the entries are those of the finite map that they make.
use Rattle.sk_map.proofs.Names.{ap, sym, subst, ◌∙◌, map, IsTotalOrder, entries_view, seen}
use Rattle.std.specs.FinMap as fin
use Rattle.sk_map.proofs.Keys.{rising}
use Rattle.sk_map.proofs.map.Map.iter.Goals as goal

pub returns-clause-rest : goal.returns-clause-rest
returns-clause-rest g c =
    let same = g.met.K.Key.same in
    let es = c.self.inside.entries.entries in
    c.iter.ensures.rest
    ∙ sym (entries_view (subst IsTotalOrder same g.met.K.Ord.total) es (rising same (map (λ e. e.0) es) c.iter.ensures.ordered))
    ∙ ap (λ fs. fin.entries (seen g.K.Key.order fs)) c.self.view_is
