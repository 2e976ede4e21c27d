-- The last entry bounds the others: what is behind it is absent, and what ties with it is it.
use Rattle.sk_map.proofs.Names.{sym, ap, subst, ◌∙◌, IsTotalOrder, get_at, seen}
use Rattle.std.specs.BTreeMap as tree
use Rattle.std.specs.FinMap as map
use Rattle.sk_map.proofs.Keys.{behind}
use Rattle.sk_map.proofs.map.Map.get_late.Goals as goal

pub returns-in-Greater : goal.returns-in-Greater
returns-in-Greater g c =
    let same = g.met.K.Key.same in
    behind g.met.K.Ord.total c.args.key.now c.in-Some.last.now _ (sym c.cmp.ensures ∙ c.in-Greater.is) (c.in-Some.ensures.greatest c.args.key.now)
    ∙ sym (get_at same (subst IsTotalOrder same g.met.K.Ord.total) c.self.inside.entries.entries c.args.key.now)
    ∙ ap (λ es. map.get (seen g.K.Key.order es) c.args.key.now) c.self.view_is

pub returns-in-Equal : goal.returns-in-Equal
returns-in-Equal g c =
    let same = g.met.K.Key.same in
    sym c.in-Some.ensures.value
    ∙ ap (tree.get g.K.Ord.cmp c.self.inside.entries) (sym (g.met.K.Key.exact c.args.key.now c.in-Some.last.now (sym c.cmp.ensures ∙ c.in-Equal.is)))
    ∙ sym (get_at same (subst IsTotalOrder same g.met.K.Ord.total) c.self.inside.entries.entries c.args.key.now)
    ∙ ap (λ es. map.get (seen g.K.Key.order es) c.args.key.now) c.self.view_is

pub returns : goal.returns
returns g c =
    let same = g.met.K.Key.same in
    c.get.ensures.value
    ∙ sym (get_at same (subst IsTotalOrder same g.met.K.Ord.total) c.self.inside.entries.entries c.args.key.now)
    ∙ ap (λ es. map.get (seen g.K.Key.order es) c.args.key.now) c.self.view_is
