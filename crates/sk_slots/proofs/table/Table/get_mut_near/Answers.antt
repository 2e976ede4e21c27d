-- A value changed through the loan is put at its key.
use Rattle.sk_slots.proofs.Names.{refl, sym, ap, subst, ◌∙◌, IsTotalOrder, IsAntisymmetric, get, insert}
use Rattle.sk_map.specs.Seen.{seen}
use Rattle.indexmap.specs.IndexMap.{set_value_at}
use Rattle.indexmap.proofs.CallerLemmas.{updates-with_value_at}
use Rattle.sk_slots.proofs.Tables.{found_by, given_by, on_lent, pair_there}
use Rattle.sk_slots.proofs.table.Table.get_mut_near.Goals as goal

pub returns-then-is_at : goal.returns-then-is_at
returns-then-is_at g c =
    let same = g.met.K.Key.same in
    let ties = g.met.K.Ord.matches_eq in
    let total = subst IsTotalOrder same g.met.K.Ord.total in
    let exact = subst IsAntisymmetric same g.met.K.Key.exact in
    let k = c.args.key.now in
    let i = c.args.place in
    let m = c.self.inside.entries in
    let there = pair_there m.entries i k (c.is_at.ensures.key c.if-is_at.true) in (
      (
        refl,
        (λ w. on_lent _ c.get_index_mut.result _ c.get_index_mut.ensures.value (λ _.
            given_by ties same total exact m.entries (set_value_at m.entries i w) k w
            (updates-with_value_at m i w g.met.K.Eq.laws c.get_index_mut.ensures.unique k there.0 there.1).0
            ∙ ap (λ fs. insert (seen g.K.Key.order fs) k w) c.self.view_is)),
        c.self.view_is,
      ),
      record { writes_back = tt; value = c.get_index_mut.ensures.value ∙ c.is_at.ensures.value c.if-is_at.true ∙ ap (λ fs. get (seen g.K.Key.order fs) k) c.self.view_is },
    )

pub returns : goal.returns
returns g c =
    let same = g.met.K.Key.same in
    let ties = g.met.K.Ord.matches_eq in
    let total = subst IsTotalOrder same g.met.K.Ord.total in
    let exact = subst IsAntisymmetric same g.met.K.Key.exact in
    let k = c.args.key.now in
    let es = c.self.inside.entries.entries in (
      (
        refl,
        (λ w. on_lent _ c.get_mut.result _ c.get_mut.ensures.value (λ there.
            given_by ties same total exact es (c.get_mut.follows.lender w).entries k w ((c.get_mut.follows.holds w).3 there).0
            ∙ ap (λ fs. insert (seen g.K.Key.order fs) k w) c.self.view_is)),
        ap (λ m. m.entries) c.get_mut.follows.holds-at-none ∙ c.self.view_is,
      ),
      record { writes_back = tt; value = c.get_mut.ensures.value ∙ sym (found_by ties same total es k) ∙ ap (λ fs. get (seen g.K.Key.order fs) k) c.self.view_is },
    )
