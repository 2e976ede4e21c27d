-- None is above the newest of the set.
use Rattle.sk_guesses.proofs.Names.{◌≡◌, ◌≤◌, ltb, true, false, length, arith, subst, sym, ◌∙◌, refl, slice_index_or}
use Rattle.sk_guesses.proofs.Names.{nat_cmp, IsStrictlySortedBy, true≢false, leb-true, ltb-true, ltb-false, none_above}
use Rattle.std.specs.Prelude.{◌-◌}
use Rattle.sk_guesses.proofs.open_guesses.stays_below.Goals as goal

pub returns-clause-drawn : goal.returns-clause-drawn
returns-clause-drawn c = λ is g here.
    let newest = c.newest-item.result in
    let same = c.ids-ids.ensures.members in
    elim (ltb newest g) as (λ b. ltb newest g ≡ b → g ≤ c.args.id) [
      | true ↦ λ above.
          absurd (true≢false (sym here ∙ none_above g newest c.args.tags.now (subst (IsStrictlySortedBy nat_cmp) same c.ids-ids.ensures.rising)
          (subst (λ xs. 1 ≤ length xs) same c.in-len1-up.len_at_least)
          (subst (λ xs. newest ≡ slice_index_or xs (length xs - 1) newest) same c.newest-item.is) (ltb-true newest g above)))
      | false ↦ λ below. let low = ltb-false newest g below in let under = leb-true c.number.result c.number-2.result is in omega (arith, low, under, c.number.ensures.value, c.number-2.ensures.value)
    ] refl
