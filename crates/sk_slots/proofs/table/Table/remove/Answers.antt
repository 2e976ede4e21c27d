-- A key is made absent.
use Rattle.sk_slots.proofs.Names.{sym, ap, subst, ◌∙◌, IsTotalOrder, IsAntisymmetric, get, remove}
use Rattle.sk_map.specs.Seen.{seen}
use Rattle.sk_slots.proofs.Tables.{found_by, removed_by}
use Rattle.sk_slots.proofs.table.Table.remove.Goals as goal

pub returns-clause-old : goal.returns-clause-old
returns-clause-old g c =
    let total = subst IsTotalOrder g.met.K.Key.same g.met.K.Ord.total in
    c.swap_remove.ensures.value
    ∙ sym (found_by g.met.K.Ord.matches_eq g.met.K.Key.same total c.self.inside.entries.entries c.args.key.now)
    ∙ ap (λ es. get (seen g.K.Key.order es) c.args.key.now) c.self.view_is

pub returns-clause-new : goal.returns-clause-new
returns-clause-new g c =
    let same = g.met.K.Key.same in
    removed_by g.met.K.Ord.matches_eq same (subst IsTotalOrder same g.met.K.Ord.total) (subst IsAntisymmetric same g.met.K.Key.exact) c.self.inside.entries.entries c.swap_remove.new.self.entries c.args.key.now
    c.swap_remove.ensures.updates.0
    ∙ ap (λ es. remove (seen g.K.Key.order es) c.args.key.now) c.self.view_is
