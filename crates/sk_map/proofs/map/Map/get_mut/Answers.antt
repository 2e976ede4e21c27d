-- A value changed through the loan is put at its key: from what `BTreeMap::get_mut` writes through.
use Rattle.sk_map.proofs.Names.{◌≡◌, Option, Some, None, IsSome, refl, sym, ap, subst, ◌∙◌, OnSome, IsTotalOrder}
use Rattle.sk_map.proofs.Names.{IsAntisymmetric, option_copied_mut, MutBor, get_at, one_given, seen}
use Rattle.std.specs.FinMap as map
use Rattle.sk_map.proofs.map.Map.get_mut.Goals as goal

on_lent : {X : Type 0} (P : Type 0) (r : Option (MutBor X)) (found : Option X) → option_copied_mut r ≡ found → (IsSome found → P) → OnSome r P
on_lent P None found e f = tt
on_lent P (Some x) found e f = f (subst IsSome e refl)

pub returns : goal.returns
returns g c =
    let same = g.met.K.Key.same in
    let total = subst IsTotalOrder same g.met.K.Ord.total in
    let exact = subst IsAntisymmetric same g.met.K.Key.exact in
    let k = c.args.key.now in
    let es = c.self.inside.entries.entries in (
      (
        refl,
        (λ w. on_lent _ c.get_mut.result _ c.get_mut.ensures.value (λ there.
            one_given same total exact es (c.get_mut.follows.lender w).entries k w ((c.get_mut.follows.holds w).3 there).0
            ∙ ap (λ fs. map.insert (seen g.K.Key.order fs) k w) c.self.view_is)),
        ap (λ m. m.entries) c.get_mut.follows.holds-at-none ∙ c.self.view_is,
      ),
      record { writes_back = tt; value = c.get_mut.ensures.value ∙ sym (get_at same total es k) ∙ ap (λ fs. map.get (seen g.K.Key.order fs) k) c.self.view_is },
    )
