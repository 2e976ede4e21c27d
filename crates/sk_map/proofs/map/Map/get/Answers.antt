-- What is got is what the map has: from the look-up in the entries, of which an empty map has none.
use Rattle.std.proofs.lemmas.List.{nil_from_length}
use Rattle.sk_map.proofs.Names.{sym, ap, subst, ◌∙◌, [], IsTotalOrder, get_at, seen}
use Rattle.std.specs.FinMap as map
use Rattle.sk_map.proofs.map.Map.get.Goals as goal

pub returns : goal.returns
returns g c =
    let same = g.met.K.Key.same in
    c.get.ensures.value
    ∙ sym (get_at same (subst IsTotalOrder same g.met.K.Ord.total) c.self.inside.entries.entries c.args.key.now)
    ∙ ap (λ es. map.get (seen g.K.Key.order es) c.args.key.now) c.self.view_is

pub returns-then-is_empty : goal.returns-then-is_empty
returns-then-is_empty g c =
    let same = g.met.K.Key.same in
    let none = nil_from_length c.self.inside.entries.entries (c.is_empty.ensures.0 c.if-is_empty.true) in
    sym (get_at same (subst IsTotalOrder same g.met.K.Ord.total) [] c.args.key.now)
    ∙ ap (λ es. map.get (seen g.K.Key.order es) c.args.key.now) (sym none ∙ c.self.view_is)
