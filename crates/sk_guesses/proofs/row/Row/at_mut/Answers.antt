-- The value of the key at the place is written through.
use Rattle.sk_guesses.proofs.Names.{refl, ◌∙◌, ap, arith, min, slice_set, vec_capacity, InOrder}
use Rattle.sk_guesses.proofs.Rows.{near, present_at, seen_at, written, keys_written}
use Rattle.sk_guesses.proofs.row.Row.at_mut.Goals as goal

pub index-requires : goal.index-requires
index-requires g c = omega (arith, near c.self.inside.values.slots c.self.inside.keys.items c.args.self.now.items c.args.place (ap (λ (r : InOrder _). r.items) c.self.view_is) c.self.invariant.present c.requires)

pub index_mut-requires : goal.index_mut-requires
index_mut-requires g c =
    present_at c.self.inside.values.slots c.self.inside.keys.items c.args.place c.index.result.now c.self.invariant.present
    (near c.self.inside.values.slots c.self.inside.keys.items c.args.self.now.items c.args.place (ap (λ (r : InOrder _). r.items) c.self.view_is) c.self.invariant.present c.requires) c.index.ensures

pub invariant_of-self-lent : goal.invariant_of-self-lent
invariant_of-self-lent g c w =
    keys_written c.self.inside.values c.self.inside.keys.items c.args.place c.index.result.now w c.self.invariant
    (near c.self.inside.values.slots c.self.inside.keys.items c.args.self.now.items c.args.place (ap (λ (r : InOrder _). r.items) c.self.view_is) c.self.invariant.present c.requires) c.index.ensures

pub returns : goal.returns
returns g c =
    let slots = c.self.inside.values.slots in
    let ks = c.self.inside.keys.items in
    let seen = ap (λ (r : InOrder _). r.items) c.self.view_is in
    let lt = near slots ks c.args.self.now.items c.args.place seen c.self.invariant.present c.requires in (
      (
        refl,
        λ w.
            ap (λ xs. record { items = xs; places = min c.self.inside.values.capacity (vec_capacity c.self.inside.keys) }) (written slots ks c.args.place c.index.result.now w c.self.invariant.present c.self.invariant.apart lt c.index.ensures)
            ∙ ap (λ (r : InOrder _). record { items = slice_set r.items c.args.place w; places = r.places }) c.self.view_is,
      ),
      record {
        writes_back = tt;
        value = seen_at slots ks c.args.self.now.items c.args.place c.index.result.now c.index_mut.result.now seen c.self.invariant.present c.requires c.index.ensures c.index_mut.ensures.value;
      },
    )
