-- A test is exact where it is true of a value and itself, and of equal values alone.
use Rattle.std.proofs.Common.{ap, subst}
use Rattle.std.specs.Option.{option_eq}
use Rattle.sk_ids.specs.Same.{IsExact}
use Rattle.std.specs.Prelude.{◌≡◌, true, Bool, Option, Some, None, refl}

pub exact_from : {A : Type 0} (E : A → A → Bool) → ((x : A) → E x x ≡ true) → ((x y : A) → E x y ≡ true → x ≡ y) → IsExact E
exact_from E itself from x y = (from x y, λ e. subst (λ z. E x z ≡ true) e (itself x))

pub exact_option : {A : Type 0} {E : A → A → Bool} → IsExact E → IsExact (option_eq E)
exact_option {E = E} e = exact_from (option_eq E) own from
  where
    own : (x : Option _) → option_eq E x x ≡ true
    own None = refl
    own (Some x) = (e x x).1 refl

    from : (x y : Option _) → option_eq E x y ≡ true → x ≡ y
    from None None h = refl
    from None (Some y) h = cc
    from (Some x) None h = cc
    from (Some x) (Some y) h = ap Some ((e x y).0 h)
