-- A token is found by the number of its guess, and taken out at its place.
use Rattle.sk_held.proofs.Names.{◌≡◌, ℕ, zero, suc, ◌<◌, ◌≤◌, List, [], ◌∷◌, length, refl, sym, ap, ◌∙◌, subst, arith}
use Rattle.sk_held.proofs.Names.{Some, Result, Ok, Err, get_or, slice_get, remove, AllByRecursion, IsStrictlySortedBy}
use Rattle.sk_held.proofs.Names.{IsBinarySearchResult, IsNonDecreasingBy, IsSearchInRange, IfSome, result_ok, nat_cmp}
use Rattle.sk_held.proofs.Names.{ordering_index, Less, Equal, Greater, get_or-map, length-map, ranked, slice_get_within}
use Rattle.sk_held.proofs.Names.{slice_get-get_or, get_or_from_slice_get, without, taken_at, Token, ids}

abbrev number : Token → ℕ
number t = t.id

abbrev some_token : ℕ → Token
some_token d = record { kernel = 0; id = d }

-- a search among tokens is one among their numbers
pub among_numbers : (g : ℕ) (ts : List Token) (r : Result ℕ ℕ) → IsBinarySearchResult (λ t. nat_cmp t.id g) ts r → IsBinarySearchResult (λ n. nat_cmp n g) (ids ts) r
among_numbers g ts (Ok i) found = λ d. subst (λ n. nat_cmp n g ≡ Equal) (sym (get_or-map number ts i (some_token d))) (found (some_token d))
among_numbers g ts (Err i) parted = λ rises.
    let up : IsNonDecreasingBy (λ t. ordering_index (nat_cmp (number t) g)) ts = λ i j d le lt.
    subst (λ n. ordering_index (nat_cmp n g) ≤ ordering_index (nat_cmp (number (get_or ts j d)) g)) (get_or-map number ts i d)
    (subst (λ n. ordering_index (nat_cmp (get_or (ids ts) i (number d)) g) ≤ ordering_index (nat_cmp n g)) (get_or-map number ts j d)
    (rises i j (number d) le (let many = length-map ts number in omega (arith, many, lt)))) in
    let both = parted up in (
      (λ k d le lt. subst (λ n. nat_cmp n g ≡ Less) (sym (get_or-map number ts k (some_token d))) (both.0 k (some_token d) le lt)),
      (λ k d le lt. subst (λ n. nat_cmp n g ≡ Greater) (sym (get_or-map number ts k (some_token d))) (both.1 k (some_token d) le (let many = length-map ts number in omega (arith, many, lt)))),
    )

ids_remove : (ts : List Token) (i : ℕ) → ids (remove ts i) ≡ remove (ids ts) i
ids_remove [] zero = refl
ids_remove [] (suc i) = refl
ids_remove (t ∷ ts) zero = refl
ids_remove (t ∷ ts) (suc i) = ap (λ ns. t.id ∷ ns) (ids_remove ts i)

pub all_but : {A : Type 0} (P : A → Type 0) (xs : List A) (i : ℕ) → AllByRecursion P xs → AllByRecursion P (remove xs i)
all_but P [] zero all = tt
all_but P [] (suc i) all = tt
all_but P (x ∷ xs) zero all = all.1
all_but P (x ∷ xs) (suc i) all = (all.0, all_but P xs i all.1)

pub all_at : {A : Type 0} (P : A → Type 0) (xs : List A) (i : ℕ) (d : A) → AllByRecursion P xs → i < length xs → P (get_or xs i d)
all_at P [] i d all lt = absurd (omega arith)
all_at P (x ∷ xs) zero d all lt = all.0
all_at P (x ∷ xs) (suc i) d all lt = all_at P xs i d all.1 (omega (arith, lt))

pub within : (ts : List Token) (i g : ℕ) → slice_get (ids ts) i ≡ Some g → i < length ts
within ts i g at = let lt = slice_get_within (ids ts) i g at in let many = length-map ts number in omega (arith, lt, many)

-- the number of the token at the place
pub number_at : (ts : List Token) (i g : ℕ) (d : Token) → slice_get (ids ts) i ≡ Some g → (get_or ts i d).id ≡ g
number_at ts i g d at = sym (get_or-map number ts i d) ∙ get_or_from_slice_get (ids ts) i g (number d) at

-- the others
pub others : (ts : List Token) (i g : ℕ) → IsStrictlySortedBy nat_cmp (ids ts) → slice_get (ids ts) i ≡ Some g → ids (remove ts i) ≡ without g (ids ts)
others ts i g rises at = ids_remove ts i ∙ taken_at g (ids ts) rises i (slice_get_within (ids ts) i g at) (get_or_from_slice_get (ids ts) i g 0 at)

-- the token that a search found is that of the guess
pub found_there : (g i : ℕ) (ts : List Token) → IsBinarySearchResult (λ t. nat_cmp t.id g) ts (Ok i) → i < length ts → slice_get (ids ts) i ≡ Some g
found_there g i ts found lt =
    let many : i < length (ids ts) = let same = length-map ts number in omega (arith, same, lt) in
    slice_get-get_or (ids ts) i 0 many ∙ ap Some (ranked (get_or (ids ts) i 0) g Equal (sym (among_numbers g ts (Ok i) found 0)))

pub there : (g : ℕ) (ts : List Token) (r : Result ℕ ℕ) → IsSearchInRange r (length ts) → IsBinarySearchResult (λ t. nat_cmp t.id g) ts r → IfSome (result_ok r) (λ place. slice_get (ids ts) place ≡ Some g)
there g ts (Ok i) lt found = found_there g i ts found lt
there g ts (Err i) le parted = tt
