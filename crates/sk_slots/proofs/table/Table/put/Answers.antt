-- A value is put at its key.
use Rattle.sk_slots.proofs.Names.{sym, ap, subst, ◌∙◌, IsTotalOrder, IsAntisymmetric, get, insert}
use Rattle.std.proofs.lemmas.Result.{err_from_is_err_and}
use Rattle.sk_map.specs.Seen.{seen}
use Rattle.sk_slots.proofs.Tables.{found_by, given_by}
use Rattle.sk_slots.proofs.table.Table.put.Goals as goal

pub returns-clause-ok : goal.returns-clause-ok
returns-clause-ok g c =
    let same = g.met.K.Key.same in
    given_by g.met.K.Ord.matches_eq same (subst IsTotalOrder same g.met.K.Ord.total) (subst IsAntisymmetric same g.met.K.Key.exact) c.self.inside.entries.entries c.insert.new.self.entries c.args.key c.args.value
    c.in_ok-insert.ensures.updates.0
    ∙ ap (λ es. insert (seen g.K.Key.order es) c.args.key c.args.value) c.self.view_is

pub returns-in_err-insert-clause-absent : goal.returns-in_err-insert-clause-absent
returns-in_err-insert-clause-absent g c =
    let total = subst IsTotalOrder g.met.K.Key.same g.met.K.Ord.total in
    let p = err_from_is_err_and c.from_residual.result c.from_residual.ensures.1 in
    rw p.1 (ap (λ es. get (seen g.K.Key.order es) c.args.key) (sym c.self.view_is)
    ∙ found_by g.met.K.Ord.matches_eq g.met.K.Key.same total c.self.inside.entries.entries c.args.key
    ∙ c.in_err-insert.ensures.absent)
