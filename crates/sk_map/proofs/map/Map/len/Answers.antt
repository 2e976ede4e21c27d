-- The keys rise, so the finite map has as many as there are entries.
use Rattle.sk_map.proofs.Names.{length, ap, sym, subst, ◌∙◌, keys, IsTotalOrder, entries_view, seen}
use Rattle.std.specs.FinMap as fin
use Rattle.sk_map.proofs.Keys.{rising}
use Rattle.sk_map.proofs.map.Map.len.Goals as goal

pub returns-clause-len : goal.returns-clause-len
returns-clause-len g c =
    let same = g.met.K.Key.same in
    let es = c.self.inside.entries.entries in
    c.len.ensures.len
    ∙ sym (fin.len-entries (seen g.K.Key.order es) ∙ ap length (entries_view (subst IsTotalOrder same g.met.K.Ord.total) es (rising same (keys c.self.inside.entries) c.len.ensures.ordered)))
    ∙ ap (λ fs. fin.len (seen g.K.Key.order fs)) c.self.view_is
