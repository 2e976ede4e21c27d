-- Objects compared by the paths of their makers, where 0 stands for none.
use Rattle.sk_undo.proofs.Cites.{◌≡◌, ℕ, ◌<◌, Option, Some, None, IsSome, refl, ap, ◌∙◌, sym, subst, unwrap_or}
use Rattle.sk_undo.proofs.Cites.{Ordering, Less, Greater, nat_cmp, ordering_then}
use Rattle.std.specs.Option.{option_cmp}
use Rattle.std.specs.Cmp.{nat_cmp_is}

-- a path is not 0, so that 0 is before all of them
by_paths : (a b : Option ℕ) (c : Ordering) → (IsSome a → 0 < unwrap_or a 0) → (IsSome b → 0 < unwrap_or b 0)
    → ordering_then (nat_cmp (unwrap_or a 0) (unwrap_or b 0)) c ≡ ordering_then (option_cmp nat_cmp a b) c
by_paths None None c f g = refl
by_paths (Some p) (Some q) c f g = refl
by_paths (Some p) None c f g = ap (λ o. ordering_then o c) (sym (nat_cmp_is p 0 Greater (f refl)))
by_paths None (Some q) c f g = ap (λ o. ordering_then o c) (sym (nat_cmp_is 0 q Less (g refl)))

-- two numbers that are paths, 0 for none, stand as the paths do
pub by_numbers : (a b : Option ℕ) (m n : ℕ) (c : Ordering) → m ≡ unwrap_or a 0 → n ≡ unwrap_or b 0 → (IsSome a → 0 < m) → (IsSome b → 0 < n)
    → ordering_then (nat_cmp m n) c ≡ ordering_then (option_cmp nat_cmp a b) c
by_numbers a b m n c e d f g =
    ap (λ x. ordering_then (nat_cmp x n) c) e ∙ ap (λ x. ordering_then (nat_cmp (unwrap_or a 0) x) c) d
    ∙ by_paths a b c (λ s. subst (λ x. 0 < x) e (f s)) (λ s. subst (λ x. 0 < x) d (g s))
