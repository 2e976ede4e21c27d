-- What ties with the first entry is it.
use Rattle.sk_map.proofs.Names.{sym, ap, subst, ◌∙◌, IsTotalOrder, get_at, seen}
use Rattle.std.specs.BTreeMap as tree
use Rattle.std.specs.FinMap as map
use Rattle.sk_map.proofs.map.Map.get_first.Goals as goal

pub returns-in-Equal : goal.returns-in-Equal
returns-in-Equal g c =
    let same = g.met.K.Key.same in
    sym c.in-Some.ensures.value
    ∙ ap (tree.get g.K.Ord.cmp c.self.inside.entries) (sym (g.met.K.Key.exact c.args.key.now c.in-Some.first.now (sym c.cmp.ensures ∙ c.in-Equal.is)))
    ∙ sym (get_at same (subst IsTotalOrder same g.met.K.Ord.total) c.self.inside.entries.entries c.args.key.now)
    ∙ ap (λ es. map.get (seen g.K.Key.order es) c.args.key.now) c.self.view_is

pub returns : goal.returns
returns g c =
    let same = g.met.K.Key.same in
    c.get.ensures.value
    ∙ sym (get_at same (subst IsTotalOrder same g.met.K.Ord.total) c.self.inside.entries.entries c.args.key.now)
    ∙ ap (λ es. map.get (seen g.K.Key.order es) c.args.key.now) c.self.view_is
