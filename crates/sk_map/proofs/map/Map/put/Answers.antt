-- A value is put at its key: from the entries after `BTreeMap::insert`.
use Rattle.sk_map.proofs.Names.{sym, ap, subst, ◌∙◌, IsTotalOrder, IsAntisymmetric, err_from_is_err_and, get_at}
use Rattle.sk_map.proofs.Names.{one_given, seen}
use Rattle.std.specs.FinMap as map
use Rattle.sk_map.proofs.map.Map.put.Goals as goal

pub returns-clause-ok : goal.returns-clause-ok
returns-clause-ok g c =
    let same = g.met.K.Key.same in
    one_given same (subst IsTotalOrder same g.met.K.Ord.total) (subst IsAntisymmetric same g.met.K.Key.exact) c.self.inside.entries.entries c.insert.new.self.entries c.args.key c.args.value
    c.in_ok-insert.ensures.updates.0
    ∙ ap (λ es. map.insert (seen g.K.Key.order es) c.args.key c.args.value) c.self.view_is

pub returns-in_err-insert-clause-absent : goal.returns-in_err-insert-clause-absent
returns-in_err-insert-clause-absent g c =
    let same = g.met.K.Key.same in
    let p = err_from_is_err_and c.from_residual.result c.from_residual.ensures.1 in
    rw p.1 (ap (λ es. map.get (seen g.K.Key.order es) c.args.key) (sym c.self.view_is)
    ∙ get_at same (subst IsTotalOrder same g.met.K.Ord.total) c.self.inside.entries.entries c.args.key
    ∙ c.in_err-insert.ensures.absent)
