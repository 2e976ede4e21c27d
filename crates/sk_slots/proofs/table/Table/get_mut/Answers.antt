-- A value changed through the loan is put at its key.
use Rattle.sk_slots.proofs.Names.{refl, sym, ap, subst, ◌∙◌, IsTotalOrder, IsAntisymmetric, get, insert}
use Rattle.sk_map.specs.Seen.{seen}
use Rattle.sk_slots.proofs.Tables.{found_by, given_by, on_lent}
use Rattle.sk_slots.proofs.table.Table.get_mut.Goals as goal

pub returns : goal.returns
returns g c =
    let same = g.met.K.Key.same in
    let ties = g.met.K.Ord.matches_eq in
    let total = subst IsTotalOrder same g.met.K.Ord.total in
    let exact = subst IsAntisymmetric same g.met.K.Key.exact in
    let k = c.args.key.now in
    let es = c.self.inside.entries.entries in (
      (
        refl,
        (λ w. on_lent _ c.get_mut.result _ c.get_mut.ensures.value (λ there.
            given_by ties same total exact es (c.get_mut.follows.lender w).entries k w ((c.get_mut.follows.holds w).3 there).0
            ∙ ap (λ fs. insert (seen g.K.Key.order fs) k w) c.self.view_is)),
        ap (λ m. m.entries) c.get_mut.follows.holds-at-none ∙ c.self.view_is,
      ),
      record { writes_back = tt; value = c.get_mut.ensures.value ∙ sym (found_by ties same total es k) ∙ ap (λ fs. get (seen g.K.Key.order fs) k) c.self.view_is },
    )
