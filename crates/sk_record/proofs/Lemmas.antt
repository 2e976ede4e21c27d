-- Lemmas on lists that the proofs of this crate and of those above it share, where the library has none.
use Rattle.sk_record.proofs.Names.{◌≡◌, ℕ, zero, suc, ◌≤◌, length, Bool, true, false, cond, ◌++◌, List, [], ◌∷◌, inl, inr}
use Rattle.sk_record.proofs.Names.{refl, ◌∙◌, ap, arith, ◌⊎◌, list_any, filter, Contains, or_left, or_right, eq-eqb}
use Rattle.sk_record.proofs.Names.{Note, has, last_tags}

-- ---- filters and tests

pub any_no : {A : Type 0} (xs : List A) → list_any (λ x. false) xs ≡ false
any_no [] = refl
any_no (x ∷ xs) = any_no xs

pub filter_alike : (p q : ℕ → Bool) (xs : List ℕ) → ((x : ℕ) → has x xs ≡ true → p x ≡ q x) → filter p xs ≡ filter q xs
filter_alike p q [] h = refl
filter_alike p q (x ∷ xs) h =
    (λ i. cond (h x (or_left _ _ (eq-eqb x x refl)) i) (x ∷ filter p xs) (filter p xs))
    ∙ ap (λ rest. cond (q x) (x ∷ rest) rest) (filter_alike p q xs (λ y there. h y (or_right _ _ there)))

pub shorter : {A : Type 0} (p : A → Bool) (xs : List A) → length (filter p xs) ≤ length xs
shorter p [] = omega arith
shorter p (x ∷ xs) =
    let rest = shorter p xs in
    elim (p x) as (λ b. length (cond b (x ∷ filter p xs) (filter p xs)) ≤ suc (length xs)) [ true ↦ omega arith | false ↦ omega arith ]

-- ---- what is in a list and its parts

pub cons_cases : {A : Type 0} (y : A) (xs : List A) (x : A) → Contains (y ∷ xs) x → (y ≡ x) ⊎ Contains xs x
cons_cases y xs x (zero, lt, is) = inl is
cons_cases y xs x (suc k, lt, is) = inr (k, omega arith, is)

pub cons_first : {A : Type 0} (x : A) (xs : List A) → Contains (x ∷ xs) x
cons_first x xs = (0, omega arith, refl)

pub cons_later : {A : Type 0} (y : A) (xs : List A) (x : A) → Contains xs x → Contains (y ∷ xs) x
cons_later y xs x (k, lt, is) = (suc k, omega arith, is)

pub no_member : {A : Type 0} (x : A) → Contains [] x → ⊥
no_member x (k, lt, is) = omega arith

-- ---- notes

pub last_more : {V : Type 0} (t : List ℕ) (ns : List (Note V)) (n : Note V) → last_tags t (ns ++ n ∷ []) ≡ n.tags
last_more t [] n = refl
last_more t (x ∷ ns) n = last_more x.tags ns n
