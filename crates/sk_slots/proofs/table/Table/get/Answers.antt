-- What is found by the hash is what the map has.
use Rattle.sk_slots.proofs.Names.{sym, ap, subst, ◌∙◌, IsTotalOrder, get}
use Rattle.sk_map.specs.Seen.{seen}
use Rattle.sk_slots.proofs.Tables.{found_by}
use Rattle.sk_slots.proofs.table.Table.get.Goals as goal

pub returns : goal.returns
returns g c =
    let total = subst IsTotalOrder g.met.K.Key.same g.met.K.Ord.total in
    c.get.ensures.value
    ∙ sym (found_by g.met.K.Ord.matches_eq g.met.K.Key.same total c.self.inside.entries.entries c.args.key.now)
    ∙ ap (λ es. get (seen g.K.Key.order es) c.args.key.now) c.self.view_is
