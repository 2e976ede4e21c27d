-- What is listed for each guess, after one terminal more was listed, a list taken out, or terminals taken off.
use Rattle.sk_terminal.proofs.Names.{◌≡◌, ℕ, zero, suc, ◌<◌, ◌≤◌, ◌+◌, length, take, Bool, true, false, cond, not, ◌||◌}
use Rattle.sk_terminal.proofs.Names.{◌&&◌, List, [], ◌∷◌, ◌++◌, Result, refl, sym, ◌∙◌, ap, subst, arith, prefix_len}
use Rattle.sk_terminal.proofs.Names.{remove, RetainsInTurn, ◌==◌, slice_index_or, slice_set, OnErr, false≢true}
use Rattle.sk_terminal.proofs.Names.{eqb-true, list_any-append, has, without, has_filter, TerminalMap, Listing}
use Rattle.sk_terminal.proofs.Names.{is_listed, rests_at, AreTidy, HasNone, ListsAtMost}
use Rattle.std.proofs.Common.{Ok, Err}
use Rattle.std.proofs.lemmas.Bool.Decides.{nat_tests}
use Rattle.std.proofs.lemmas.Grind.{common_steps}

-- ---- lists of numbers
-- one more of a list is gone over
pub has_more : (t : ℕ) (xs : List ℕ) (i d : ℕ) → i < length xs → d ≡ slice_index_or xs i d → has t (take (i + 1) xs) ≡ (has t (take i xs) || ((d == t) || false))
has_more t xs i d lt is = grind (arith, common_steps, list_any-append)

pub some_there : (t : ℕ) (xs : List ℕ) → has t xs ≡ true → 0 < length xs
some_there t [] here = absurd (false≢true here)
some_there t (x ∷ xs) here = omega arith

pub flipped : (g c : ℕ) → (g == c) ≡ false → (c == g) ≡ false
flipped g c apart = grind (arith, nat_tests)

-- ---- the list of a guess
abbrev pub is_other : ℕ → Listing → Bool
is_other g l = not (l.guess == g)

pub found : (g k : ℕ) (ls : List Listing) (l : Listing) → k ≡ prefix_len (is_other g) ls → k < length ls → l ≡ slice_index_or ls k l → (t : ℕ) → has t l.terminals ≡ is_listed g t ls
found g k [] l is lt at t = absurd (omega arith)
found g k (x ∷ ls) l is lt at t = grind (arith, found g (prefix_len (is_other g) ls) ls l refl)

pub missing : (g k : ℕ) (ls : List Listing) → k ≡ prefix_len (is_other g) ls → length ls ≤ k → HasNone g ls
missing g k [] is le = tt
missing g k (x ∷ ls) is le = grind (arith, missing g (prefix_len (is_other g) ls) ls refl)

none_at : (g k : ℕ) (ls : List Listing) (l : Listing) → k < length ls → l ≡ slice_index_or ls k l → HasNone g ls → (l.guess == g) ≡ false
none_at g k [] l lt at none = absurd (omega arith)
none_at g zero (x ∷ ls) l lt at none = grind arith
none_at g (suc k) (x ∷ ls) l lt at none = none_at g k ls l (omega arith) at none.1

-- a list of the guess is the only one, so it is the first
pub place_of_own : (g k : ℕ) (ls : List Listing) (l : Listing) → k < length ls → l ≡ slice_index_or ls k l → l.guess ≡ g → AreTidy ls
    → k ≡ prefix_len (is_other g) ls
place_of_own g k [] l lt at is tidy = absurd (omega arith)
place_of_own g zero (x ∷ ls) l lt at is tidy = grind (arith, nat_tests)
place_of_own g (suc k) (x ∷ ls) l lt at is tidy =
    let later = place_of_own g k ls l (omega arith) at is tidy.2 in
    let apart = none_at x.guess k ls l (omega arith) at tidy.0 in
    grind (arith, nat_tests)

pub none_listed : (g : ℕ) (ls : List Listing) → HasNone g ls → (t : ℕ) → is_listed g t ls ≡ false
none_listed g [] none t = refl
none_listed g (x ∷ ls) none t = grind (arith, none_listed g ls none.1 t)

-- ---- the list of a guess taken out
pub removed_other : (g h k t : ℕ) (ls : List Listing) → k ≡ prefix_len (is_other g) ls → k < length ls → (g == h) ≡ false → is_listed h t (remove ls k) ≡ is_listed h t ls
removed_other g h k t [] is lt apart = absurd (omega arith)
removed_other g h zero t (x ∷ ls) is lt apart = grind (arith, nat_tests)
removed_other g h (suc k) t (x ∷ ls) is lt apart = grind (arith, removed_other g h k t ls)

none_removed : (g k : ℕ) (ls : List Listing) → k < length ls → HasNone g ls → HasNone g (remove ls k)
none_removed g k [] lt none = absurd (omega arith)
none_removed g zero (x ∷ ls) lt none = none.1
none_removed g (suc k) (x ∷ ls) lt none = (none.0, none_removed g k ls (omega arith) none.1)

pub tidy_removed : (k : ℕ) (ls : List Listing) → k < length ls → AreTidy ls → AreTidy (remove ls k)
tidy_removed k [] lt tidy = absurd (omega arith)
tidy_removed zero (x ∷ ls) lt tidy = tidy.2
tidy_removed (suc k) (x ∷ ls) lt tidy = (none_removed x.guess k ls (omega arith) tidy.0, tidy.1, tidy_removed k ls (omega arith) tidy.2)

pub gone : (g k : ℕ) (ls : List Listing) → k ≡ prefix_len (is_other g) ls → k < length ls → AreTidy ls → HasNone g (remove ls k)
gone g k [] is lt tidy = absurd (omega arith)
gone g zero (x ∷ ls) is lt tidy = grind (arith, nat_tests)
gone g (suc k) (x ∷ ls) is lt tidy = grind (arith, gone g k ls)

-- ---- one terminal more: in a list that is there
pub set_listed : (g k t : ℕ) (ls : List Listing) (l new : Listing) → k ≡ prefix_len (is_other g) ls → k < length ls → l ≡ slice_index_or ls k l → new.guess ≡ l.guess
    → ((q : ℕ) → has q new.terminals ≡ (has q l.terminals || (t == q))) → (h q : ℕ) → is_listed h q (slice_set ls k new) ≡ (is_listed h q ls || ((g == h) && (t == q)))
set_listed g k t [] l new is lt at same more h q = absurd (omega arith)
set_listed g zero t (x ∷ ls) l new is lt at same more h q = grind (arith, nat_tests, more q)
set_listed g (suc k) t (x ∷ ls) l new is lt at same more h q = grind (arith, nat_tests, set_listed g k t ls l new)

none_set : (h k : ℕ) (ls : List Listing) (l new : Listing) → k < length ls → l ≡ slice_index_or ls k l → new.guess ≡ l.guess → HasNone h ls → HasNone h (slice_set ls k new)
none_set h k [] l new lt at same none = absurd (omega arith)
none_set h zero (x ∷ ls) l new lt at same none = (subst (λ n. (n == h) ≡ false) (sym (same ∙ ap (λ (y : Listing). y.guess) at)) none.0, none.1)
none_set h (suc k) (x ∷ ls) l new lt at same none = (none.0, none_set h k ls l new (omega arith) at same none.1)

pub tidy_set : (k : ℕ) (ls : List Listing) (l new : Listing) → k < length ls → l ≡ slice_index_or ls k l → new.guess ≡ l.guess → 0 < length new.terminals → AreTidy ls → AreTidy (slice_set ls k new)
tidy_set k [] l new lt at same some tidy = absurd (omega arith)
tidy_set zero (x ∷ ls) l new lt at same some tidy = grind arith
tidy_set (suc k) (x ∷ ls) l new lt at same some tidy = (none_set x.guess k ls l new (omega arith) at same tidy.0, tidy.1, tidy_set k ls l new (omega arith) at same some tidy.2)

pub some_at : (k : ℕ) (ls : List Listing) (l : Listing) → k < length ls → l ≡ slice_index_or ls k l → AreTidy ls → 0 < length l.terminals
some_at k [] l lt at tidy = absurd (omega arith)
some_at zero (x ∷ ls) l lt at tidy = subst (λ (y : Listing). 0 < length y.terminals) (sym at) tidy.1
some_at (suc k) (x ∷ ls) l lt at tidy = some_at k ls l (omega arith) at tidy.2

pub same_set : (k : ℕ) (ls : List Listing) (l new : Listing) → k < length ls → l ≡ slice_index_or ls k l → new.guess ≡ l.guess → new.terminals ≡ l.terminals
    → (h q : ℕ) → is_listed h q (slice_set ls k new) ≡ is_listed h q ls
same_set k [] l new lt at same more h q = absurd (omega arith)
same_set zero (x ∷ ls) l new lt at same more h q = grind arith
same_set (suc k) (x ∷ ls) l new lt at same more h q = grind (arith, same_set k ls l new)

-- and in a new list
pub push_listed : (g t : ℕ) (ls : List Listing) (l : Listing) → HasNone g ls → l.guess ≡ g → l.terminals ≡ t ∷ [] → (h q : ℕ) → is_listed h q (ls ++ l ∷ []) ≡ (is_listed h q ls || ((g == h) && (t == q)))
push_listed g t [] l none same one h q = grind (arith, nat_tests)
push_listed g t (x ∷ ls) l none same one h q = grind (arith, nat_tests, push_listed g t ls l)

none_push : (g : ℕ) (ls : List Listing) (l : Listing) → HasNone g ls → (l.guess == g) ≡ false → HasNone g (ls ++ l ∷ [])
none_push g [] l none apart = (apart, tt)
none_push g (x ∷ ls) l none apart = (none.0, none_push g ls l none.1 apart)

pub tidy_push : (ls : List Listing) (l : Listing) → AreTidy ls → HasNone l.guess ls → 0 < length l.terminals → AreTidy (ls ++ l ∷ [])
tidy_push [] l tidy none some = (tt, some, tt)
tidy_push (x ∷ ls) l tidy none some = (none_push x.guess ls l tidy.0 (flipped x.guess l.guess none.0), tidy.1, tidy_push ls l tidy.2 none.1 some)

-- what holds where something was refused, held anyway
pub on_err_given : {A F P : Type 0} (r : Result A F) → P → OnErr r P
on_err_given (Ok x) p = tt
on_err_given (Err why) p = p

-- one terminal was listed, for some guesses
pub at_most : (old new : List Listing) (k : ℕ) (a : ℕ → Bool) → ((g t : ℕ) → is_listed g t new ≡ (is_listed g t old || (a g && (k == t)))) → ListsAtMost k old new
at_most old new k a more = grind (arith, nat_tests)

-- one guess more has the terminal listed
pub one_more : (a b c d : Bool) → ((a || (b && d)) || (c && d)) ≡ (a || ((b || (c || false)) && d))
one_more a b c d = grind arith

-- ---- a terminal taken out of a list where nothing of it depends on the guess
pub refreshed : (k t : ℕ) (xs : List ℕ) (rests : ℕ → Bool) (free : Bool) → free ≡ (has k xs && not (rests k)) → has t (cond free (without k xs) xs) ≡ (has t xs && (not (k == t) || rests t))
refreshed k t xs rests free is = let left = has_filter (λ y. not (y == k)) t xs in grind (arith, nat_tests)

-- one terminal more is taken off
pub taken_more : (old cur new : List Listing) (m : TerminalMap) (numbers : List ℕ) (i x : ℕ) → i < length numbers → x ≡ slice_index_or numbers i x
    → ((g t : ℕ) → is_listed g t cur ≡ (is_listed g t old && (not (has t (take i numbers)) || rests_at g m t)))
    → ((g t : ℕ) → is_listed g t new ≡ (is_listed g t cur && (not (x == t) || rests_at g m t)))
    → (g t : ℕ) → is_listed g t new ≡ (is_listed g t old && (not (has t (take (i + 1) numbers)) || rests_at g m t))
taken_more old cur new m numbers i x lt is before now g t =
    grind (arith, before g t, now g t, has_more t numbers i x lt is)

-- ---- a pass over the lists
module _ {S : Type 0} (R : S → Listing → Bool → S → Listing → Type 0) (s : S) (p : ℕ → ℕ → Bool)
    (told : (x : Listing) (b : Bool) (t : S) (y : Listing) → R s x b t y → (y.guess ≡ x.guess) × ((n : ℕ) → has n y.terminals ≡ (has n x.terminals && p x.guess n)) × (b ≡ true → 0 < length y.terminals) × (b ≡ false → y.terminals ≡ []) × (t ≡ s)) where
  none_in_turn : (xs ys : List Listing) → RetainsInTurn R s xs ys → (g : ℕ) → HasNone g xs → HasNone g ys
  none_in_turn [] ys turn g none = subst (HasNone g) (sym turn) tt
  none_in_turn (x ∷ xs) ys (b, t, y, step, zs, later, is) g none =
      let says = told x b t y step in
      let rest : HasNone g zs = none_in_turn xs zs (subst (λ u. RetainsInTurn R u xs zs) says.4 later) g none.1 in
      subst (HasNone g) (sym is) (elim b as (λ c. HasNone g (cond c (y ∷ zs) zs)) [ true ↦ (subst (λ n. (n == g) ≡ false) (sym says.0) none.0, rest) | false ↦ rest ])

  pub tidy_in_turn : (xs ys : List Listing) → RetainsInTurn R s xs ys → AreTidy xs → AreTidy ys
  tidy_in_turn [] ys turn tidy = subst AreTidy (sym turn) tt
  tidy_in_turn (x ∷ xs) ys (b, t, y, step, zs, later, is) tidy =
      let says = told x b t y step in
      let turn = subst (λ u. RetainsInTurn R u xs zs) says.4 later in
      let rest : AreTidy zs = tidy_in_turn xs zs turn tidy.2 in
      let none : HasNone y.guess zs = subst (λ n. HasNone n zs) (sym says.0) (none_in_turn xs zs turn x.guess tidy.0) in
      subst AreTidy (sym is) (elim b as (λ c. (c ≡ true → 0 < length y.terminals) → AreTidy (cond c (y ∷ zs) zs)) [ true ↦ λ some. (none, some refl, rest) | false ↦ λ _. rest ] says.2)

  pub left_in_turn : (xs ys : List Listing) → RetainsInTurn R s xs ys → AreTidy xs → (g n : ℕ) → is_listed g n ys ≡ (is_listed g n xs && p g n)
  left_in_turn [] ys turn tidy g n = ap (is_listed g n) turn
  left_in_turn (x ∷ xs) ys (b, t, y, step, zs, later, is) tidy g n =
      let says = told x b t y step in
      let rest : is_listed g n zs ≡ (is_listed g n xs && p g n) = left_in_turn xs zs (subst (λ u. RetainsInTurn R u xs zs) says.4 later) tidy.2 g n in
      ap (is_listed g n) is
      ∙ elim (x.guess == g) as (λ k. (x.guess == g) ≡ k → is_listed g n (cond b (y ∷ zs) zs) ≡ (cond k (has n x.terminals) (is_listed g n xs) && p g n)) [
        | true ↦ λ same.
            let number : x.guess ≡ g = eqb-true x.guess g same in
            let left : has n y.terminals ≡ (has n x.terminals && p g n) = says.1 n ∙ ap (λ k. has n x.terminals && p k n) number in
            let first : (y.guess == g) ≡ true = ap (λ k. k == g) says.0 ∙ same in
            elim b as (λ c. (c ≡ false → y.terminals ≡ []) → is_listed g n (cond c (y ∷ zs) zs) ≡ (has n x.terminals && p g n)) [
              | true ↦ λ _. ap (λ c. cond c (has n y.terminals) (is_listed g n zs)) first ∙ left
              | false ↦ λ none.
                  rest ∙ ap (λ c. c && p g n) (none_listed g xs (subst (λ k. HasNone k xs) number tidy.0) n)
                  ∙ sym (sym left ∙ ap (has n) (none refl))
            ] says.3
        | false ↦ λ other.
            let first : (y.guess == g) ≡ false = ap (λ k. k == g) says.0 ∙ other in
            elim b as (λ c. is_listed g n (cond c (y ∷ zs) zs) ≡ (is_listed g n xs && p g n)) [
              | true ↦ ap (λ c. cond c (has n y.terminals) (is_listed g n zs)) first ∙ rest
              | false ↦ rest
            ]
      ] refl
