-- A key is made absent: from the entries after `BTreeMap::remove`.
use Rattle.sk_map.proofs.Names.{sym, ap, subst, ◌∙◌, IsTotalOrder, IsAntisymmetric, get_at, one_removed, seen}
use Rattle.std.specs.FinMap as map
use Rattle.sk_map.proofs.map.Map.remove.Goals as goal

pub returns-clause-old : goal.returns-clause-old
returns-clause-old g c =
    let same = g.met.K.Key.same in
    c.remove.ensures.value
    ∙ sym (get_at same (subst IsTotalOrder same g.met.K.Ord.total) c.self.inside.entries.entries c.args.key.now)
    ∙ ap (λ es. map.get (seen g.K.Key.order es) c.args.key.now) c.self.view_is

pub returns-clause-new : goal.returns-clause-new
returns-clause-new g c =
    let same = g.met.K.Key.same in
    one_removed same (subst IsTotalOrder same g.met.K.Ord.total) (subst IsAntisymmetric same g.met.K.Key.exact) c.self.inside.entries.entries c.remove.new.self.entries c.args.key.now
    c.remove.ensures.updates.0
    ∙ ap (λ es. map.remove (seen g.K.Key.order es) c.args.key.now) c.self.view_is
