-- An entity without a slot lends nothing; else what is left behind the loan of `EntityMap::get_mut` is its slot.
use Rattle.sk_undo.proofs.Cites.{◌≡◌, refl, ap, subst, ◌∙◌, OnSome}
use Rattle.std.specs.FinMap as map
use Rattle.sk_undo.proofs.slots.Slots.late_slot_mut.Goals as goal

pub returns : goal.returns
returns c =
    let e = c.args.entity.now in (
      (
        refl,
        (λ w. subst (λ m. OnSome c.get_mut.result (c.get_mut.follows.lender w ≡ map.insert m e w)) c.self.view_is (c.get_mut.follows.holds w)),
        c.get_mut.follows.holds-at-none ∙ c.self.view_is,
      ),
      record { writes_back = tt; value = c.get_mut.ensures.value ∙ ap (λ m. map.get m e) c.self.view_is },
    )
