-- The entities of a map rise.
use Rattle.sk_report.proofs.Names.{◌≡◌, refl, Bool, true, false, List, [], ◌∷◌, Entity, entity_cmp, Ordering, Less, Equal, Greater}
use Rattle.std.specs.FinMap.{FinMap, entries, entries_sorted, keys}
use Rattle.std.specs.FinMap.Entries.{below_all, is_sorted}
use Rattle.std.specs.List.{AllByRecursion}
use Rattle.std.specs.List.Sorted.{IsStrictlySortedBy}
use Rattle.std.specs.Ordering.{is_lt}
use Rattle.std.specs.Prelude.{T, map as each}
use Rattle.std.proofs.Common.{◌&&◌}

first : (a b : Bool) → T (a && b) → T a
first true b p = tt
first false b p = p

second : (a b : Bool) → T (a && b) → T b
second true b p = p
second false b p = absurd p

less : (r : Ordering) → T (is_lt r) → r ≡ Less
less Less t = refl
less Equal t = absurd t
less Greater t = absurd t

module _ {V : Type 0} where
  behind : (k : Entity) (es : List (Entity × V)) → T (below_all entity_cmp k es) → AllByRecursion (λ y. entity_cmp k y ≡ Less) (each (λ e. e.0) es)
  behind k [] t = tt
  behind k (e ∷ es) t = (less _ (first _ _ t), behind k es (second _ _ t))

  rise : (es : List (Entity × V)) → T (is_sorted entity_cmp es) → IsStrictlySortedBy entity_cmp (each (λ e. e.0) es)
  unfolding IsStrictlySortedBy
  rise [] s = tt
  rise (e ∷ es) s = (behind e.0 es (first _ _ s), rise es (second _ _ s))

  pub keys_rise : (m : FinMap entity_cmp V) → IsStrictlySortedBy entity_cmp (keys m)
  keys_rise m = rise (entries m) (entries_sorted m)
