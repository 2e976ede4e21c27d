-- Where no guess is undecided all texts are released.
use Rattle.sk_kernel.proofs.Names.{◌≡◌, ℕ, true, false, cond, List, [], ◌∷◌, ◌++◌, map, Option, Some, None, refl, ◌∙◌}
use Rattle.sk_kernel.proofs.Names.{ap, ◌==◌, MarkedEffect, System, tags_along, next_dirty, said_with, said_by, Tagged}
use Rattle.sk_kernel.proofs.Names.{released, released_if}

-- no text depends on a guess
abbrev pub AllClear : {W : Type 0} → List (Tagged W) → Type 0
AllClear [] = Unit {0}
AllClear (x ∷ xs) = (x.1 ≡ []) × AllClear xs

pub clear_released : {W : Type 0} (xs : List (Tagged W)) → AllClear xs → released xs ≡ map (λ x. x.0) xs
clear_released [] all = refl
clear_released (x ∷ xs) all = ap (λ tags. released_if tags x.0 (released xs)) all.0 ∙ ap (λ ws. x.0 ∷ ws) (clear_released xs all.1)

module _ {E V W F N : Type 0} (K : System E V W F N) where
  said_clear : (t : ℕ) (said : Option W) (xs : List (Tagged W)) → AllClear xs → AllClear (said_by K t said [] ++ xs)
  said_clear t None xs all = all
  said_clear t (Some w) xs all = elim (K.goes_to w == t) as (λ b. AllClear (cond b ((w, []) ∷ []) [] ++ xs)) [ true ↦ (refl, all) | false ↦ all ]

  pub all_clear : (t : ℕ) (dirty : ℕ → List E) (fs : List (MarkedEffect E V W)) → AllClear (said_with K t (tags_along K.order [] dirty fs) fs)
  all_clear t dirty [] = tt
  all_clear t dirty (f ∷ fs) = said_clear t f.said _ (all_clear t (next_dirty K.order [] dirty f) fs)
