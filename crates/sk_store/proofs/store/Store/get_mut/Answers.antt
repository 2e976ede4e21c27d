-- What is left behind the loan of `Map::get_mut` is what the entity has.
use Rattle.sk_store.proofs.Names.{◌≡◌, refl, ap, subst, ◌∙◌, OnSome, entity_cmp, seen}
use Rattle.std.specs.FinMap as map
use Rattle.sk_store.proofs.store.Store.get_mut.Goals as goal

pub returns : goal.returns
returns c =
    let e = c.args.entity.now in (
      (
        refl,
        (λ w. subst (λ m. OnSome c.get_mut.result (seen entity_cmp (c.get_mut.follows.lender w) ≡ map.insert m e w)) c.self.view_is (c.get_mut.follows.holds w)),
        ap (seen entity_cmp) c.get_mut.follows.holds-at-none ∙ c.self.view_is,
      ),
      record { writes_back = tt; value = c.get_mut.ensures.value ∙ ap (λ m. map.get m e) c.self.view_is },
    )
