-- Passes over the open guesses, one place after the other.
use Rattle.sk_guesses.proofs.Names.{◌≡◌, ◌≢◌, ℕ, zero, suc, ◌+◌, ◌<◌, ◌≤◌, length, take, drop, Bool, true, false, not}
use Rattle.sk_guesses.proofs.Names.{List, ◌∷◌, ◌++◌, map, refl, sym, ◌∙◌, arith, slice_index_or, nat_cmp, filter}
use Rattle.sk_guesses.proofs.Names.{prefix_len, remove, eq-eqb, or_left, or_right, suc-eq-add-one, drop-cons}
use Rattle.sk_guesses.proofs.Names.{prefix_len_passes, prefix_len_stops, has, without, Open, not_struck, AreBelow}
use Rattle.sk_guesses.proofs.Names.{AllZip, struck_with, above, OpenGuess, after_commit, but, opens_of, without_tag, Listing}
use Rattle.std.proofs.Common.{[]}
use Rattle.std.specs.List.Sorted.{IsStrictlySortedBy}
use Rattle.sk_guesses.proofs.Opens.{guess_of, named, is_other, none_closed, not_above, not_there}
use Rattle.sk_guesses.proofs.Shared.{IsPassed, pairs_map}
use Rattle.std.proofs.lemmas.Simd.{map-map}
use Rattle.std.proofs.lemmas.List.{get_or_default}
use Rattle.std.proofs.lemmas.Bool.Decides.{nat_tests}

-- ---- a pass from the back
pub fewer : {X : Type 0} (p : X → Bool) (xs : List X) → length (filter p xs) ≤ length xs
fewer p [] = omega arith
fewer p (x ∷ xs) = grind (arith, nat_tests, fewer p xs)

same_tags : (g : ℕ) (tags : List ℕ) → has g tags ≡ false → without g tags ≡ tags
same_tags g [] none = refl
same_tags g (t ∷ tags) none = grind (arith, nat_tests, same_tags g tags)

module _ {E : Type 0} where
  -- ---- a search from the front
  pub next_of_all : (ls : List (Listing E)) (i : ℕ) (l : Listing E) → i < length ls → l ≡ slice_index_or ls i l → drop i ls ≡ l ∷ drop (i + 1) ls
  next_of_all ls i l lt at = drop-cons ls i l lt ∙ (λ k. sym at k ∷ drop (suc-eq-add-one i k) ls)

  -- ---- a search by halves
  there : (ls : List (Listing E)) (k : ℕ) (d : Listing E) → k < length ls → has (slice_index_or ls k d).guess.id (named (map guess_of ls)) ≡ true
  there [] k d lt = absurd (omega arith)
  there (x ∷ ls) zero d lt = or_left _ _ (eq-eqb x.guess.id x.guess.id refl)
  there (x ∷ ls) (suc k) d lt = or_right _ _ (there ls k d (omega arith))

  pub earlier : (ls : List (Listing E)) (i j : ℕ) (d e : Listing E) → IsStrictlySortedBy nat_cmp (named (map guess_of ls)) → i < j → j < length ls
      → (slice_index_or ls i d).guess.id < (slice_index_or ls j e).guess.id
  unfolding IsStrictlySortedBy
  earlier [] i j d e rises le lt = absurd (omega arith)
  earlier (x ∷ ls) i zero d e rises le lt = absurd (omega arith)
  earlier (x ∷ ls) zero (suc j) d e rises le lt =
      above x.guess.id (named (map guess_of ls)) (slice_index_or ls j e).guess.id rises.0 (there ls j e (omega arith))
  earlier (x ∷ ls) (suc i) (suc j) d e rises le lt = earlier ls i j d e rises.1 (omega arith) (omega arith)

  -- no number is above a later one
  no_later : (ls : List (Listing E)) (i j : ℕ) (d e : Listing E) → IsStrictlySortedBy nat_cmp (named (map guess_of ls)) → i ≤ j → j < length ls
      → (slice_index_or ls i d).guess.id ≤ (slice_index_or ls j e).guess.id
  no_later ls i j d e rises le lt = grind (arith, nat_tests, earlier ls i j d e rises, get_or_default ls j d e lt)

  pub at_place : (g k : ℕ) (ls : List (Listing E)) (l : Listing E) → IsStrictlySortedBy nat_cmp (named (map guess_of ls)) → k < length ls → l ≡ slice_index_or ls k l → l.guess.id ≡ g
      → k ≡ prefix_len (is_other g) ls
  at_place g k ls l rises lt at is =
      let passes = prefix_len_passes (is_other g) ls k l in
      let stops = prefix_len_stops (is_other g) ls l in
      grind (arith, nat_tests, passes, stops, earlier ls (prefix_len (is_other g) ls) k l l rises)

  pub no_place : (g : ℕ) (ls : List (Listing E)) → ((k : ℕ) (d : Listing E) → k < length ls → (slice_index_or ls k d).guess.id ≢ g) → length ls ≡ prefix_len (is_other g) ls
  no_place g [] none = refl
  no_place g (x ∷ ls) none = grind (arith, nat_tests, none 0 x, no_place g ls (λ k d lt. none (suc k) d (omega arith)))

  -- the places of all below a number, and of all above it
  pub record IsBetween (ls : List (Listing E)) (g low high : ℕ) : Type 0 where
    pub below : (k : ℕ) (d : Listing E) → k < low → (slice_index_or ls k d).guess.id < g
    pub above_it : (k : ℕ) (d : Listing E) → high ≤ k → k < length ls → g < (slice_index_or ls k d).guess.id
    pub within : high ≤ length ls

  pub further_on : (ls : List (Listing E)) (g low high k : ℕ) (l : Listing E) → IsStrictlySortedBy nat_cmp (named (map guess_of ls)) → k < length ls → l ≡ slice_index_or ls k l → l.guess.id < g
      → IsBetween ls g low high → IsBetween ls g (k + 1) high
  further_on ls g low high k l rises lt at less so =
      grind (arith, nat_tests, λ (j : ℕ) (d : Listing E). no_later ls j k d l rises)

  pub further_back : (ls : List (Listing E)) (g low high k : ℕ) (l : Listing E) → IsStrictlySortedBy nat_cmp (named (map guess_of ls)) → k < length ls → l ≡ slice_index_or ls k l → g < l.guess.id
      → IsBetween ls g low high → IsBetween ls g low k
  further_back ls g low high k l rises lt at more so =
      grind (arith, nat_tests, λ (j : ℕ) (d : Listing E). no_later ls k j l d rises)

  pub nowhere : (ls : List (Listing E)) (g low high : ℕ) → high ≤ low → IsBetween ls g low high → length ls ≡ prefix_len (is_other g) ls
  nowhere ls g low high met so = grind (arith, nat_tests, no_place g ls, so.below, so.above_it)

  -- ---- one goes
  pub but_missing : (g k : ℕ) (ls : List (Listing E)) → k ≡ prefix_len (is_other g) ls → length ls ≤ k → map guess_of ls ≡ but g (map guess_of ls)
  but_missing g k ls is le = sym (none_closed g (map guess_of ls) (not_there g k ls is le))

  pub but_found : (g k : ℕ) (ls : List (Listing E)) → IsStrictlySortedBy nat_cmp (named (map guess_of ls)) → k ≡ prefix_len (is_other g) ls → k < length ls → map guess_of (remove ls k) ≡ but g (map guess_of ls)
  unfolding IsStrictlySortedBy
  but_found g k [] rises is lt = absurd (omega arith)
  but_found g zero (x ∷ ls) rises is lt =
      grind (arith, nat_tests, none_closed g (map guess_of ls), not_above x.guess.id g (named (map guess_of ls)))
  but_found g (suc k) (x ∷ ls) rises is lt = grind (arith, nat_tests, but_found g k ls rises.1)

  -- ---- none before a place has a tag
  abbrev pub IsUnmarked : ℕ → ℕ → List (Listing E) → Type 0
  IsUnmarked g from ls = (k : ℕ) (d : Listing E) → k < from → has g (slice_index_or ls k d).guess.tags ≡ false

  -- and it is taken out of one after the other
  abbrev pub Untagged : ℕ → Listing E → Listing E → Type 0
  Untagged g x y = y.guess ≡ without_tag g x.guess

  pub from_there : (g from : ℕ) (os : List (Listing E)) → IsUnmarked g from os → IsPassed (Untagged g) os os from
  from_there g from os none =
      grind (arith, nat_tests, λ (k : ℕ) (d : Listing E). same_tags g (slice_index_or os k d).guess.tags)

  pub all_untagged : (g : ℕ) (os ls : List (Listing E)) → AllZip (Untagged g) os ls → map guess_of ls ≡ map (without_tag g) (map guess_of os)
  all_untagged g os ls ps =
      pairs_map (Untagged g) guess_of (λ x. without_tag g x.guess) os ls (λ x y is. is) ps ∙ sym (map-map (without_tag g) guess_of os)

  pub but_without : (g : ℕ) (os : List (OpenGuess E)) → but g (map (without_tag g) os) ≡ map (without_tag g) (but g os)
  but_without g [] = refl
  but_without g (o ∷ os) = grind (arith, nat_tests, but_without g os)

  pub rest_of_all : (g from : ℕ) (ls : List (Listing E)) → IsUnmarked g from ls → from ≤ length ls
      → take from ls ++ filter (λ (x : Listing E). not (has g x.guess.tags)) (drop from ls) ≡ filter (λ (x : Listing E). not (has g x.guess.tags)) ls
  rest_of_all g zero ls none le = refl
  rest_of_all g (suc from) [] none le = absurd (omega arith)
  rest_of_all g (suc from) (x ∷ ls) none le =
      grind (arith, nat_tests, none 0 x, rest_of_all g from ls (λ k d lt. none (suc k) d (omega arith)))

  pub none_struck_before : (g from : ℕ) (ls : List (Listing E)) → IsUnmarked g from ls → from ≤ length ls → struck_with g (opens_of (map guess_of (drop from ls))) ≡ struck_with g (opens_of (map guess_of ls))
  none_struck_before g zero ls none le = refl
  none_struck_before g (suc from) [] none le = absurd (omega arith)
  none_struck_before g (suc from) (x ∷ ls) none le =
      grind (arith, nat_tests, none 0 x, none_struck_before g from ls (λ k d lt. none (suc k) d (omega arith)))

  below_at : (ls : List (Listing E)) (k g : ℕ) (d : Listing E) → AreBelow (opens_of (map guess_of ls)) → k < length ls → has g (slice_index_or ls k d).guess.tags ≡ true → g ≤ (slice_index_or ls k d).guess.id
  below_at [] k g d below lt here = absurd (omega arith)
  below_at (x ∷ ls) zero g d below lt here = below.0 g here
  below_at (x ∷ ls) (suc k) g d below lt here = below_at ls k g d below.1 (omega arith) here

  pub unmarked : (g p : ℕ) (ls : List (Listing E)) → IsStrictlySortedBy nat_cmp (named (map guess_of ls)) → AreBelow (opens_of (map guess_of ls)) → p ≡ prefix_len (is_other g) ls → p < length ls
      → (k : ℕ) (d : Listing E) → k < p → has g (slice_index_or ls k d).guess.tags ≡ false
  unmarked g p ls rises below is lt k d before =
      grind (arith, nat_tests, prefix_len_stops (is_other g) ls d, earlier ls k p d d rises, below_at ls k g d below)

-- ---- no tag above its own guess
pub below_left : (g : ℕ) (os : List Open) → AreBelow os → AreBelow (not_struck g os)
below_left g [] below = tt
below_left g (o ∷ os) below = grind (arith, nat_tests, below_left g os below.1)

fewer_tags : (g h : ℕ) (tags : List ℕ) → has h (without g tags) ≡ true → has h tags ≡ true
fewer_tags g h [] here = here
fewer_tags g h (t ∷ tags) here = grind (arith, nat_tests, fewer_tags g h tags)

pub below_committed : {E : Type 0} (g : ℕ) (os : List (OpenGuess E)) → AreBelow (opens_of os) → AreBelow (opens_of (after_commit g os))
below_committed g [] below = tt
below_committed g (o ∷ os) below = grind (arith, nat_tests, fewer_tags g, below_committed g os below.1)

pub below_but : {E : Type 0} (g : ℕ) (os : List (OpenGuess E)) → AreBelow (opens_of os) → AreBelow (opens_of (but g os))
below_but g [] below = tt
below_but g (o ∷ os) below = grind (arith, nat_tests, below_but g os below.1)

pub below_more : {E : Type 0} (os : List (OpenGuess E)) (o : OpenGuess E) → AreBelow (opens_of os) → ((g : ℕ) → has g o.tags ≡ true → g ≤ o.id) → AreBelow (opens_of (os ++ o ∷ []))
below_more [] o below its = (its, tt)
below_more (x ∷ os) o below its = (below.0, below_more os o below.1 its)
