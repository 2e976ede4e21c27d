-- A number put into a list of numbers that rises.
use Rattle.sk_terminal.proofs.Names.{◌≡◌, ℕ, zero, suc, ◌<◌, ◌≤◌, length, Bool, true, false, ◌||◌, List, [], ◌∷◌, sym}
use Rattle.sk_terminal.proofs.Names.{◌∙◌, ap, arith, ◌==◌, get_or, Ok, Err, AllByRecursion, insert}
use Rattle.sk_terminal.proofs.Names.{IsBinarySearchResult, nat_cmp, Less, nat_cmp_is, or_assoc}
use Rattle.sk_terminal.proofs.Names.{AllPairs-from_increasing, searched, IsStrictlyIncreasing-from_sorted, has}
use Rattle.std.specs.List.Sorted.{IsStrictlySortedBy}
use Rattle.std.proofs.lemmas.Bool.Decides.{nat_tests}

pub or_none : (b : Bool) → (b || false) ≡ b
or_none b = grind arith

turned : (a b c : Bool) → (c || (a || b)) ≡ ((a || b) || c)
turned a b c = grind arith

pub has_insert : (q e : ℕ) (xs : List ℕ) (i : ℕ) → i ≤ length xs → has q (insert xs i e) ≡ (has q xs || (e == q))
has_insert q e [] zero le = or_none (e == q)
has_insert q e [] (suc i) le = absurd (omega arith)
has_insert q e (x ∷ xs) zero le = turned (x == q) (has q xs) (e == q)
has_insert q e (x ∷ xs) (suc i) le = ap (λ b. (x == q) || b) (has_insert q e xs i (omega arith)) ∙ sym (or_assoc (x == q) (has q xs) (e == q))

less : (x y : ℕ) → x < y → nat_cmp x y ≡ Less
less x y lt = sym (nat_cmp_is x y Less lt)

all_above : (e : ℕ) (ys : List ℕ) → ((k : ℕ) → k < length ys → e < get_or ys k 0) → AllByRecursion (λ y. nat_cmp e y ≡ Less) ys
all_above e [] above = tt
all_above e (y ∷ ys) above = (less e y (above 0 (omega arith)), all_above e ys (λ k lt. above (suc k) (omega (lt, arith))))

all_insert : (x e : ℕ) (xs : List ℕ) (i : ℕ) → i ≤ length xs → nat_cmp x e ≡ Less → AllByRecursion (λ y. nat_cmp x y ≡ Less) xs → AllByRecursion (λ y. nat_cmp x y ≡ Less) (insert xs i e)
all_insert x e [] zero le one all = (one, tt)
all_insert x e [] (suc i) le one all = absurd (omega arith)
all_insert x e (y ∷ ys) zero le one all = (one, all)
all_insert x e (y ∷ ys) (suc i) le one all = (all.0, all_insert x e ys i (omega arith) one all.1)

pub rises_insert : (e : ℕ) (xs : List ℕ) (i : ℕ) → IsStrictlySortedBy nat_cmp xs → i ≤ length xs
    → ((k : ℕ) → k < i → get_or xs k 0 < e) → ((k : ℕ) → i ≤ k → k < length xs → e < get_or xs k 0) → IsStrictlySortedBy nat_cmp (insert xs i e)
unfolding IsStrictlySortedBy
rises_insert e [] zero s le below above = (tt, tt)
rises_insert e [] (suc i) s le below above = absurd (omega arith)
rises_insert e (x ∷ xs) zero s le below above = (all_above e (x ∷ xs) (λ k lt. above k (omega arith) lt), s)
rises_insert e (x ∷ xs) (suc i) s le below above =
    let one : nat_cmp x e ≡ Less = less x e (below 0 (omega arith)) in
    (all_insert x e xs i (omega arith) one s.0, rises_insert e xs i s.1 (omega arith) (λ k lt. below (suc k) (omega (lt, arith))) (λ k low lt. above (suc k) (omega (low, arith)) (omega (lt, arith))))

-- ---- what a search finds
up : (xs : List ℕ) → IsStrictlySortedBy nat_cmp xs → (i j : ℕ) → i ≤ j → j < length xs → get_or xs i 0 ≤ get_or xs j 0
up xs rises i j le within =
    let first = AllPairs-from_increasing xs (IsStrictlyIncreasing-from_sorted xs rises) i j 0 in grind (arith, nat_tests)

pub place_at : (g : ℕ) (xs : List ℕ) (i : ℕ) → IsStrictlySortedBy nat_cmp xs → IsBinarySearchResult (λ y. nat_cmp y g) xs (Ok i) → (i < length xs) × (get_or xs i 0 ≡ g)
place_at g xs i rises h = searched xs g (Ok i) h (up xs rises)

pub place_for : (g : ℕ) (xs : List ℕ) (i : ℕ) → IsStrictlySortedBy nat_cmp xs → IsBinarySearchResult (λ y. nat_cmp y g) xs (Err i)
    → (i ≤ length xs) × ((k : ℕ) → k < i → get_or xs k 0 < g) × ((k : ℕ) → i ≤ k → k < length xs → g < get_or xs k 0)
place_for g xs i rises h = searched xs g (Err i) h (up xs rises)

pub put_rises : (g : ℕ) (xs : List ℕ) (i : ℕ) → IsStrictlySortedBy nat_cmp xs → IsBinarySearchResult (λ y. nat_cmp y g) xs (Err i) → IsStrictlySortedBy nat_cmp (insert xs i g)
put_rises g xs i rises h = let at = place_for g xs i rises h in rises_insert g xs i rises at.0 at.1 at.2

-- a number that is there adds nothing
pub there_already : (q g : ℕ) (xs : List ℕ) → has g xs ≡ true → has q xs ≡ (has q xs || (g == q))
there_already q g xs here = grind (arith, nat_tests)
