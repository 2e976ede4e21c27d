-- The key at the place goes, and its value.
use Rattle.sk_guesses.proofs.Names.{◌≡◌, ◌+◌, length, sym, ◌∙◌, ap, subst, arith, remove, InOrder, AreKeys, in_order}
use Rattle.sk_guesses.proofs.Rows.{near, present_at, seen_at, removed, keys_left}
use Rattle.sk_guesses.proofs.row.Row.remove.Goals as goal

pub take_key-key-requires : goal.take_key-key-requires
take_key-key-requires g c = omega (arith, near c.self.inside.values.slots c.self.inside.keys.items c.args.self.now.items c.args.place (ap (λ (r : InOrder _). r.items) c.self.view_is) c.self.invariant.present c.requires)

pub remove-requires : goal.remove-requires
remove-requires g c =
    present_at c.self.inside.values.slots c.self.inside.keys.items c.args.place c.take_key-key.result c.self.invariant.present
    (near c.self.inside.values.slots c.self.inside.keys.items c.args.self.now.items c.args.place (ap (λ (r : InOrder _). r.items) c.self.view_is) c.self.invariant.present c.requires) c.take_key-key.ensures.value

pub invariant_of-self : goal.invariant_of-self
invariant_of-self g c =
    let ks = c.self.inside.keys.items in
    let lt = near c.self.inside.values.slots ks c.args.self.now.items c.args.place (ap (λ (r : InOrder _). r.items) c.self.view_is) c.self.invariant.present c.requires in
    let fewer : length (remove ks c.args.place) + 1 ≡ length ks = (let same = ap length c.take_key-key.ensures.items in omega (arith, same, c.take_key-key.ensures.len)) in
    subst (AreKeys c.remove.new.self) (sym c.take_key-key.ensures.items)
    (keys_left c.self.inside.values c.remove.new.self ks c.args.place c.take_key-key.result c.self.invariant lt c.take_key-key.ensures.value c.remove.ensures.slots c.remove.ensures.len fewer)

pub returns-clause-value : goal.returns-clause-value
returns-clause-value g c =
    seen_at c.self.inside.values.slots c.self.inside.keys.items c.args.self.now.items c.args.place c.take_key-key.result c.remove.result (ap (λ (r : InOrder _). r.items) c.self.view_is) c.self.invariant.present c.requires c.take_key-key.ensures.value
    c.remove.ensures.value

pub returns-clause-items : goal.returns-clause-items
returns-clause-items g c =
    let ks = c.self.inside.keys.items in
    let slots = c.self.inside.values.slots in
    let lt = near slots ks c.args.self.now.items c.args.place (ap (λ (r : InOrder _). r.items) c.self.view_is) c.self.invariant.present c.requires in
    ap (λ xs. in_order c.remove.new.self.slots xs) c.take_key-key.ensures.items
    ∙ ap (λ ss. in_order ss (remove ks c.args.place)) c.remove.ensures.slots
    ∙ removed slots ks c.args.place c.take_key-key.result c.self.invariant.present c.self.invariant.apart lt c.take_key-key.ensures.value
    ∙ ap (λ (r : InOrder _). remove r.items c.args.place) c.self.view_is
