-- A value under a key that was vacant, and the key behind the others.
use Rattle.sk_guesses.proofs.Names.{◌∷◌, ◌++◌, [], length, sym, ◌∙◌, ap, subst, arith, InOrder, AreKeys, in_order}
use Rattle.sk_guesses.proofs.Rows.{as_many, one_more, keys_more}
use Rattle.sk_guesses.proofs.row.Row.push_reserved.Goals as goal

pub insert_reserved-key-requires : goal.insert_reserved-key-requires
insert_reserved-key-requires g c =
    let many = as_many c.self.inside.values.slots c.self.inside.keys.items c.self.invariant.present in
    let same = ap (λ (r : InOrder _). length r.items) c.self.view_is in
    let places = ap (λ (r : InOrder _). r.places) c.self.view_is in
    omega (arith, many, same, places, c.requires, c.self.invariant.all)

pub push_reserved-requires : goal.push_reserved-requires
push_reserved-requires g c =
    let many = as_many c.self.inside.values.slots c.self.inside.keys.items c.self.invariant.present in
    let same = ap (λ (r : InOrder _). length r.items) c.self.view_is in
    let places = ap (λ (r : InOrder _). r.places) c.self.view_is in
    omega (arith, many, same, places, c.requires)

pub invariant_of-self : goal.invariant_of-self
invariant_of-self g c =
    let ens = c.insert_reserved-key.ensures in
    subst (AreKeys c.insert_reserved-key.new.self) (sym c.push_reserved.ensures.items)
    (keys_more c.self.inside.values c.insert_reserved-key.new.self c.self.inside.keys.items c.insert_reserved-key.result c.args.value c.self.invariant ens.was_vacant ens.updates ens.len)

pub returns-clause-items : goal.returns-clause-items
returns-clause-items g c =
    let ens = c.insert_reserved-key.ensures in
    ap (λ ks. in_order c.insert_reserved-key.new.self.slots ks) c.push_reserved.ensures.items
    ∙ one_more c.self.inside.values c.insert_reserved-key.new.self c.self.inside.keys.items c.insert_reserved-key.result c.args.value c.self.invariant ens.was_vacant ens.updates
    ∙ ap (λ (r : InOrder _). r.items ++ c.args.value ∷ []) c.self.view_is
