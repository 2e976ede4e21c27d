-- The value of the key at the place.
use Rattle.sk_guesses.proofs.Names.{ap, arith, InOrder}
use Rattle.sk_guesses.proofs.Rows.{near, present_at, seen_at}
use Rattle.sk_guesses.proofs.row.Row.at.Goals as goal

pub index-requires : goal.index-requires
index-requires g c = omega (arith, near c.self.inside.values.slots c.self.inside.keys.items c.args.self.now.items c.args.place (ap (λ (r : InOrder _). r.items) c.self.view_is) c.self.invariant.present c.requires)

pub index-requires-2 : goal.index-requires-2
index-requires-2 g c =
    present_at c.self.inside.values.slots c.self.inside.keys.items c.args.place c.index.result.now c.self.invariant.present
    (near c.self.inside.values.slots c.self.inside.keys.items c.args.self.now.items c.args.place (ap (λ (r : InOrder _). r.items) c.self.view_is) c.self.invariant.present c.requires) c.index.ensures

pub returns : goal.returns
returns g c =
    seen_at c.self.inside.values.slots c.self.inside.keys.items c.args.self.now.items c.args.place c.index.result.now c.index-2.result.now (ap (λ (r : InOrder _). r.items) c.self.view_is) c.self.invariant.present c.requires c.index.ensures
    c.index-2.ensures
