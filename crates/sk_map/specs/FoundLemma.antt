-- Each entry of a finite map is found by its key.
use Rattle.std.specs.Prelude.{◌≡◌, ◌&&◌, Bool, true, false, List, [], ◌∷◌, Option, Some}
use Rattle.std.proofs.Common.{refl, ap, ◌∙◌, cond, T}
use Rattle.std.specs.declared.cmp.Ordering.{Ordering}
use Rattle.std.specs.declared.cmp.Ordering.TheVariants.{Less, Equal, Greater}
use Rattle.std.specs.Ordering.{eq_by_cmp, is_eq, is_lt, ordering_reverse}
use Rattle.std.specs.Cmp.{IsTotalOrder, eq_by_cmp_equiv}
use Rattle.std.specs.List.{AllByRecursion}
use Rattle.std.specs.FinMap.{FinMap, entries, entries_sorted, get, get-entries}
use Rattle.std.specs.FinMap.Entries.{below_all, find, is_sorted}

turned : (r : Ordering) → T (is_lt r) → is_eq (ordering_reverse r) ≡ false
turned Less t = refl
turned Equal t = absurd t
turned Greater t = absurd t

both_of : (a b : Bool) → T (a && b) → T a × T b
both_of true b t = (tt, t)
both_of false b t = absurd t

module _ {K X : Type 0} {R : K → K → Ordering} (total : IsTotalOrder R) where
  -- what stands behind a key is not at it
  later : (e : K × X) (es fs : List (K × X)) → T (below_all R e.0 fs) → AllByRecursion (λ f. find R f.0 es ≡ Some f.1) fs → AllByRecursion (λ f. find R f.0 (e ∷ es) ≡ Some f.1) fs
  later e es [] below h = tt
  later e es (f ∷ fs) below h =
      let parts = both_of (is_lt (R e.0 f.0)) (below_all R e.0 fs) below in
      (ap (λ b. cond b (Some e.1) (find R f.0 es)) (ap is_eq (total.antisymm f.0 e.0) ∙ turned (R e.0 f.0) parts.0) ∙ h.0, later e es fs parts.1 h.1)

  found : (es : List (K × X)) → T (is_sorted R es) → AllByRecursion (λ e. find R e.0 es ≡ Some e.1) es
  found [] sorted = tt
  found (e ∷ es) sorted =
      let parts = both_of (below_all R e.0 es) (is_sorted R es) sorted in
      (ap (λ b. cond b (Some e.1) (find R e.0 es)) ((eq_by_cmp_equiv total).refl e.0), later e es es parts.0 (found es parts.1))

  got : (m : FinMap R X) (es : List (K × X)) → AllByRecursion (λ e. find R e.0 (entries m) ≡ Some e.1) es → AllByRecursion (λ e. get m e.0 ≡ Some e.1) es
  got m [] h = tt
  got m (e ∷ es) h = (get-entries m e.0 ∙ h.0, got m es h.1)

  pub each_found : (m : FinMap R X) → AllByRecursion (λ e. get m e.0 ≡ Some e.1) (entries m)
  each_found m = got m (entries m) (found (entries m) (entries_sorted m))
