-- An entity is found among those that were written, whichever is looked at first.
use Rattle.sk_undo.proofs.Cites.{◌≡◌, Bool, true, false, ◌||◌, List, [], ◌∷◌, refl, ◌∙◌, ap, list_any, reverse-append}
use Rattle.sk_undo.proofs.Cites.{list_any-append}
use Rattle.sk_undo.proofs.Cites.{Option, Some, None, is_some, true≢false}
use Rattle.std.proofs.Common.{reverse}

either_way : (a b : Bool) → (a || (b || false)) ≡ (b || a)
either_way true true = refl
either_way true false = refl
either_way false true = refl
either_way false false = refl

pub any_reverse : {A : Type 0} (p : A → Bool) (xs : List A) → list_any p (reverse xs) ≡ list_any p xs
any_reverse p [] = refl
any_reverse p (x ∷ xs) =
    ap (list_any p) (reverse-append (x ∷ []) xs)
    ∙ list_any-append p (reverse xs) (x ∷ [])
    ∙ ap (λ b. b || (p x || false)) (any_reverse p xs)
    ∙ either_way (list_any p xs) (p x)

pub absent_is : {A : Type 0} (o : Option A) → is_some o ≡ false → o ≡ None
absent_is None h = refl
absent_is (Some x) h = absurd (true≢false h)
