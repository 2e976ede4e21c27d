-- What is in lists that are made of others.
use Rattle.std.proofs.lemmas.Bool.Decides.{nat_tests}
use Rattle.sk_durable.proofs.Names.{◌≡◌, ◌+◌, ◌<◌, Bool, true, false, cond, List, [], ◌∷◌, flat_map, length, map, inl}
use Rattle.sk_durable.proofs.Names.{inr, refl, sym, ◌∙◌, ap, subst, arith, filter, Contains, Contains-append_cases, ℕ}
use Rattle.sk_durable.proofs.Names.{list_any, has, false≢true}
pub use Rattle.sk_record.proofs.Lemmas.{cons_cases as first_or_later, cons_first as at_first, cons_later as at_later}

pub nothing_there : {A P : Type 0} (x : A) → Contains [] x → P
nothing_there x (k, lt, is) = absurd (omega (arith, lt))

pub from_map : {A B : Type 0} (f : A → B) (xs : List A) (y : B) → Contains (map f xs) y → (x : A) × Contains xs x
    × (f x ≡ y)
from_map f [] y at = nothing_there y at
from_map f (x ∷ xs) y at = elim (first_or_later (f x) (map f xs) y at) [
  | inl is ↦ (x, at_first x xs, is)
  | inr later ↦ let found = from_map f xs y later in (found.0, at_later x xs found.0 found.1, found.2)
]

pub to_map : {A B : Type 0} (f : A → B) (xs : List A) (x : A) → Contains xs x → Contains (map f xs) (f x)
to_map f [] x at = nothing_there x at
to_map f (y ∷ xs) x at = elim (first_or_later y xs x at) [
  | inl is ↦ subst (λ z. Contains (f y ∷ map f xs) (f z)) is (at_first (f y) (map f xs))
  | inr later ↦ at_later (f y) (map f xs) (f x) (to_map f xs x later)
]

pub from_flat : {A B : Type 0} (f : A → List B) (xs : List A) (y : B) → Contains (flat_map f xs) y → (x : A)
    × Contains xs x × Contains (f x) y
from_flat f [] y at = nothing_there y at
from_flat f (x ∷ xs) y at = elim (Contains-append_cases (f x) (flat_map f xs) y at) [
  | inl here ↦ (x, at_first x xs, here)
  | inr later ↦ let found = from_flat f xs y later in (found.0, at_later x xs found.0 found.1, found.2)
]

pub from_filter : {A : Type 0} (p : A → Bool) (xs : List A) (x : A) → Contains (filter p xs) x → Contains xs x
    × (p x ≡ true)
from_filter p [] x at = nothing_there x at
from_filter p (y ∷ xs) x at =
    elim (p y) as (λ b. p y ≡ b → Contains (cond b (y ∷ filter p xs) (filter p xs)) x → Contains (y ∷ xs) x
    × (p x ≡ true)) [
      | true ↦ λ passes here. elim (first_or_later y (filter p xs) x here) [
        | inl is ↦ (subst (Contains (y ∷ xs)) is (at_first y xs), ap p (sym is) ∙ passes)
        | inr later ↦ let found = from_filter p xs x later in (at_later y xs x found.0, found.1)
      ]
      | false ↦ λ fails here. let found = from_filter p xs x here in (at_later y xs x found.0, found.1)
    ] refl at

pub to_filter : {A : Type 0} (p : A → Bool) (xs : List A) (x : A) → Contains xs x → p x ≡ true
    → Contains (filter p xs) x
to_filter p [] x at passes = nothing_there x at
to_filter p (y ∷ xs) x at passes = elim (first_or_later y xs x at) [
  | inl is ↦ subst (λ b. Contains (cond b (y ∷ filter p xs) (filter p xs)) x) (sym (ap p is ∙ passes))
      (subst (Contains (y ∷ filter p xs)) is (at_first y (filter p xs)))
  | inr later ↦ elim (p y) as (λ b. Contains (cond b (y ∷ filter p xs) (filter p xs)) x) [
    | true ↦ at_later y (filter p xs) x (to_filter p xs x later passes)
    | false ↦ to_filter p xs x later passes
  ]
]

-- a filter of what is mapped
pub filter_of_map : {A B : Type 0} (f : A → B) (p : B → Bool) (xs : List A)
    → filter p (map f xs) ≡ map f (filter (λ x. p (f x)) xs)
filter_of_map f p [] = refl
filter_of_map f p (x ∷ xs) = grind (arith, nat_tests, filter_of_map f p xs)

-- a filter that keeps as many keeps all
pub filter_shorter : {A : Type 0} (p : A → Bool) (xs : List A) → length (filter p xs) < length xs + 1
filter_shorter p [] = omega arith
filter_shorter p (x ∷ xs) = grind (arith, nat_tests, filter_shorter p xs)

pub none_lost : {A : Type 0} (p : A → Bool) (xs : List A) (x : A) → length (filter p xs) ≡ length xs → Contains xs x
    → p x ≡ true
none_lost p [] x same at = nothing_there x at
none_lost p (y ∷ xs) x same at =
    grind (arith, nat_tests, first_or_later y xs x at, none_lost p xs x, filter_shorter p xs)

-- a number that is among others
pub any_has : (p : ℕ → Bool) (xs : List ℕ) → list_any p xs ≡ true → (g : ℕ) × (has g xs ≡ true) × (p g ≡ true)
any_has p [] is = absurd (false≢true is)
any_has p (x ∷ xs) is = grind (arith, nat_tests, any_has p xs)

pub has_any : (p : ℕ → Bool) (xs : List ℕ) (g : ℕ) → has g xs ≡ true → p g ≡ true → list_any p xs ≡ true
has_any p [] g here is = absurd (false≢true here)
has_any p (x ∷ xs) g here is = grind (arith, nat_tests, has_any p xs g)

pub has_at : (ns : List ℕ) (g : ℕ) → has g ns ≡ true → Contains ns g
has_at [] g is = absurd (false≢true is)
has_at (n ∷ ns) g is = grind (arith, nat_tests, at_first n ns, at_later n ns g, has_at ns g)
