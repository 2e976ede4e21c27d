-- Tests of the elements that a filter leaves.
use Rattle.sk_server.proofs.Names.{◌≡◌, Bool, true, false, cond, ◌&&◌, ◌||◌, List, [], ◌∷◌, refl, ap, filter, list_any}

first_left : {X : Type 0} (p : X → Bool) (b : Bool) (x : X) (ys : List X) (r : Bool) → list_any p ys ≡ r → list_any p (cond b (x ∷ ys) ys) ≡ ((b && p x) || r)
first_left p true x ys r h = ap (λ v. p x || v) h
first_left p false x ys r h = h

-- one of those that are left passes, where one passes both tests
pub any_left : {X : Type 0} (f p : X → Bool) (xs : List X) → list_any p (filter f xs) ≡ list_any (λ x. f x && p x) xs
any_left f p [] = refl
any_left f p (x ∷ xs) = first_left p (f x) x (filter f xs) (list_any (λ y. f y && p y) xs) (any_left f p xs)
