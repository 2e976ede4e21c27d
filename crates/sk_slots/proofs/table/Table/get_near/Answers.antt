-- The value that stands there with this key, or what is found by the hash, is what the map has.
use Rattle.sk_slots.proofs.Names.{sym, ap, subst, ◌∙◌, IsTotalOrder, get}
use Rattle.std.specs.Map.{lookup}
use Rattle.sk_map.specs.Seen.{seen}
use Rattle.sk_slots.proofs.Tables.{found_by, same_key}
use Rattle.sk_slots.proofs.table.Table.get_near.Goals as goal

pub returns-then-eq : goal.returns-then-eq
returns-then-eq g c =
    let total = subst IsTotalOrder g.met.K.Key.same g.met.K.Ord.total in
    let es = c.self.inside.entries.entries in
    let k = c.args.key.now in
    let own = same_key g.met.K.Ord.matches_eq g.met.K.Key.exact c.in-Some.own.now k (sym c.eq.ensures ∙ c.if-eq.true) in
    sym c.in-Some.ensures.value
    ∙ ap (λ q. lookup (g.K.PartialEq.eq q) es) own
    ∙ sym (found_by g.met.K.Ord.matches_eq g.met.K.Key.same total es k)
    ∙ ap (λ fs. get (seen g.K.Key.order fs) k) c.self.view_is

pub returns : goal.returns
returns g c =
    let total = subst IsTotalOrder g.met.K.Key.same g.met.K.Ord.total in
    c.get.ensures.value
    ∙ sym (found_by g.met.K.Ord.matches_eq g.met.K.Key.same total c.self.inside.entries.entries c.args.key.now)
    ∙ ap (λ es. get (seen g.K.Key.order es) c.args.key.now) c.self.view_is
