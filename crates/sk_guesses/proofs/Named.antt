-- Passes over the guesses of a set alone, where numbers rise.
use Rattle.sk_guesses.proofs.Names.{◌≡◌, ◌≢◌, ℕ, zero, suc, ◌+◌, ◌-◌, ◌<◌, ◌≤◌, length, Bool, true, false, cond, List}
use Rattle.sk_guesses.proofs.Names.{[], ◌∷◌, map, inl, inr, refl, sym, ◌∙◌, ap, subst, arith, slice_index_or, slice_set}
use Rattle.sk_guesses.proofs.Names.{nat_cmp, not, true≢false, eq-eqb, or_left, or_right, has, above, OpenGuess, Listing, AllByRecursion, AllZip, remove, ◌++◌}
use Rattle.std.specs.List.Sorted.{IsStrictlySortedBy}
use Rattle.std.proofs.lemmas.Bool.{cases_Bool, cases_lt}
use Rattle.std.proofs.lemmas.List.{get_or_default}
use Rattle.std.proofs.Math.Seq.{map-set_same}
use Rattle.sk_guesses.specs.Shared.{Sharing, AreRising, seen, is_beyond, AreReady, IsReady, AreWithin, IsWithin, Agrees, IsPlaced, IsRelieved, IsRoomier, IsChanged}
use Rattle.sk_guesses.proofs.Opens.{guess_of, named}
use Rattle.sk_guesses.proofs.Shared.{IsPassed, all_at, all_from, all_pairs, none_passed, one_passed, pairs_all, pairs_map}
use Rattle.std.proofs.lemmas.Bool.Decides.{nat_tests}

-- ---- numbers that rise
there : (xs : List ℕ) (k d : ℕ) → k < length xs → has (slice_index_or xs k d) xs ≡ true
there [] k d lt = absurd (omega arith)
there (x ∷ xs) zero d lt = or_left _ _ (eq-eqb x x refl)
there (x ∷ xs) (suc k) d lt = or_right _ _ (there xs k d (omega arith))

earlier : (xs : List ℕ) (i j d e : ℕ) → IsStrictlySortedBy nat_cmp xs → i < j → j < length xs → slice_index_or xs i d < slice_index_or xs j e
unfolding IsStrictlySortedBy
earlier [] i j d e rises less lt = absurd (omega arith)
earlier (x ∷ xs) i zero d e rises less lt = absurd (omega arith)
earlier (x ∷ xs) zero (suc j) d e rises less lt = above x xs (slice_index_or xs j e) rises.0 (there xs j e (omega arith))
earlier (x ∷ xs) (suc i) (suc j) d e rises less lt = earlier xs i j d e rises.1 (omega arith) (omega arith)

no_later : (xs : List ℕ) (i j d e : ℕ) → IsStrictlySortedBy nat_cmp xs → i ≤ j → j < length xs → slice_index_or xs i d ≤ slice_index_or xs j e
no_later xs i j d e rises le lt = grind (arith, nat_tests, earlier xs i j d e rises, get_or_default xs j d e lt)

none_is : (xs : List ℕ) (x : ℕ) → ((k d : ℕ) → k < length xs → slice_index_or xs k d ≢ x) → has x xs ≡ false
none_is [] x none = refl
none_is (y ∷ ys) x none = grind (arith, nat_tests, none 0 y, none_is ys x (λ k d lt. none (suc k) d (omega arith)))

-- the places of all below a number, and of the others
pub record IsHalved (xs : List ℕ) (g low high : ℕ) : Type 0 where
  pub below : (k d : ℕ) → k < low → slice_index_or xs k d < g
  pub others : (k d : ℕ) → high ≤ k → k < length xs → g ≤ slice_index_or xs k d
  pub ordered : low ≤ high
  pub within : high ≤ length xs

pub lower : (xs : List ℕ) (g low high k x : ℕ) → IsStrictlySortedBy nat_cmp xs → low ≤ k → k < high → x ≡ slice_index_or xs k x → x < g → IsHalved xs g low high → IsHalved xs g (k + 1) high
lower xs g low high k x rises le lt at less so = grind (arith, nat_tests, λ (j d : ℕ). no_later xs j k d x rises)

pub higher : (xs : List ℕ) (g low high k x : ℕ) → IsStrictlySortedBy nat_cmp xs → low ≤ k → k < high → x ≡ slice_index_or xs k x → g ≤ x → IsHalved xs g low high → IsHalved xs g low k
higher xs g low high k x rises le lt at more so = grind (arith, nat_tests, λ (j d : ℕ). no_later xs k j x d rises)

module _ {E : Type 0} where
  abbrev pub id_of : Sharing E → ℕ
  id_of o = o.guess.id

  -- ---- guesses whose numbers rise
  row_there : (os : List (Sharing E)) (k : ℕ) (d : Sharing E) → k < length os → has (slice_index_or os k d).guess.id (map id_of os) ≡ true
  row_there [] k d lt = absurd (omega arith)
  row_there (o ∷ os) zero d lt = or_left _ _ (eq-eqb o.guess.id o.guess.id refl)
  row_there (o ∷ os) (suc k) d lt = or_right _ _ (row_there os k d (omega arith))

  row_earlier : (os : List (Sharing E)) (i j : ℕ) (d e : Sharing E) → AreRising os → i < j → j < length os → (slice_index_or os i d).guess.id < (slice_index_or os j e).guess.id
  unfolding IsStrictlySortedBy
  row_earlier [] i j d e rises less lt = absurd (omega arith)
  row_earlier (o ∷ os) i zero d e rises less lt = absurd (omega arith)
  row_earlier (o ∷ os) zero (suc j) d e rises less lt = above o.guess.id (map id_of os) (slice_index_or os j e).guess.id rises.0 (row_there os j e (omega arith))
  row_earlier (o ∷ os) (suc i) (suc j) d e rises less lt = row_earlier os i j d e rises.1 (omega arith) (omega arith)

  pub row_no_later : (os : List (Sharing E)) (i j : ℕ) (d e : Sharing E) → AreRising os → i ≤ j → j < length os → (slice_index_or os i d).guess.id ≤ (slice_index_or os j e).guess.id
  row_no_later os i j d e rises le lt = grind (arith, nat_tests, row_earlier os i j d e rises, get_or_default os j d e lt)

  -- from a place on all before another are below a number
  pub record IsFirst (os : List (Sharing E)) (g from low high : ℕ) : Type 0 where
    pub below : (k : ℕ) (d : Sharing E) → from ≤ k → k < low → (slice_index_or os k d).guess.id < g
    pub least : from ≤ low
    pub ordered : low ≤ high
    pub within : high ≤ length os

  pub begun : (os : List (Sharing E)) (g from n : ℕ) → from ≤ n → n ≡ length os → IsFirst os g from from n
  begun os g from n le is = record { below = λ k d low lt. absurd (omega arith); least = omega arith; ordered = le; within = omega arith }

  pub further : (os : List (Sharing E)) (g from low high k : ℕ) (l : Sharing E) → AreRising os → low ≤ k → k < high → l ≡ slice_index_or os k l → l.guess.id < g
      → IsFirst os g from low high → IsFirst os g from (k + 1) high
  further os g from low high k l rises le lt at less so = grind (arith, nat_tests, λ (j : ℕ) (d : Sharing E). row_no_later os j k d l rises)

  pub back : (os : List (Sharing E)) (g from low high k : ℕ) → low ≤ k → k < high → IsFirst os g from low high → IsFirst os g from low k
  back os g from low high k le lt so = record { below = so.below; least = so.least; ordered = le; within = (let within = so.within in omega (arith, within, lt)) }

  pub newest : (os : List (Sharing E)) (g from n : ℕ) (l : Sharing E) → AreRising os → from < n → n ≡ length os → l ≡ slice_index_or os (n - 1) l → l.guess.id ≤ g → IsFirst os g from (n - 1) n
  newest os g from n l rises lt is at less = record {
    below = λ k d low before. (let earlier_is = row_earlier os k (n - 1) d l rises before (omega (arith, is, lt)) in let same = ap id_of at in omega (arith, earlier_is, same, less));
    least = omega (arith, lt);
    ordered = omega arith;
    within = omega (arith, is);
  }

  -- what is passed over is not in a set
  module _ (tags : List ℕ) (os : List (Sharing E)) (from i : ℕ) (l : Sharing E) (tags_rise : IsStrictlySortedBy nat_cmp tags) (rises : AreRising os) (at : l ≡ slice_index_or os from l)
      (below : (k d : ℕ) → k < i → slice_index_or tags k d < l.guess.id) where
    pub all_passed_over : length tags ≤ i → (k : ℕ) (d : Sharing E) → from ≤ k → k < length os → has (slice_index_or os k d).guess.id tags ≡ false
    all_passed_over le k d low lt =
        none_is tags (slice_index_or os k d).guess.id (λ j e near same.
        let less = below j e (omega (arith, le, near)) in
        let later = row_no_later os from k l d rises low lt in
        let it = ap id_of at in
        absurd (omega (arith, less, later, it, same)))

    pub passed_over : (next r : ℕ) → i < length tags → next ≡ slice_index_or tags i next → r ≤ length os
        → ((k : ℕ) (d : Sharing E) → from ≤ k → k < r → (slice_index_or os k d).guess.id < next)
        → (k : ℕ) (d : Sharing E) → from ≤ k → k < r → has (slice_index_or os k d).guess.id tags ≡ false
    passed_over next r some here bound under k d low lt =
        let later = row_no_later os from k l d rises low (omega (arith, lt, bound)) in
        let it = ap id_of at in
        let less = under k d low lt in
        none_is tags (slice_index_or os k d).guess.id (λ j e near same.
        elim (cases_lt j i) [
          | inl before ↦ (let first = below j e before in absurd (omega (arith, first, later, it, same)))
          | inr le ↦ (let last = no_later tags i j next e tags_rise le near in absurd (omega (arith, less, here, last, same)))
        ])

  -- ---- numbers stay
  pub ids_seen : (es : List E) (os : List (Sharing E)) → named (map guess_of (map (seen es) os)) ≡ map id_of os
  ids_seen es [] = refl
  ids_seen es (o ∷ os) = grind (arith, nat_tests, ids_seen es os)

  pub seen_rising : (es : List E) (os : List (Sharing E)) (ls : List (Listing E)) → map (seen es) os ≡ ls → IsStrictlySortedBy nat_cmp (named (map guess_of ls)) → AreRising os
  seen_rising es os ls is rises = subst (IsStrictlySortedBy nat_cmp) (ap (λ xs. named (map guess_of xs)) (sym is) ∙ ids_seen es os) rises

  pub same_ids : (os : List (Sharing E)) (i : ℕ) (l new : Sharing E) → l ≡ slice_index_or os i l → new.guess.id ≡ l.guess.id → map id_of (slice_set os i new) ≡ map id_of os
  same_ids os i l new at is = map-set_same id_of os i new l (is ∙ ap id_of at)

  pub changed_id : (f : List E → List E) (c : ℕ → Bool) (o new : Sharing E) → IsChanged f c o new → new.guess.id ≡ o.guess.id
  changed_id f c o new is = grind (arith, nat_tests, is.sharing, is.alone)

  pub placed_id : (c : ℕ → Bool) (n : ℕ) (o new : Sharing E) → IsPlaced c n o new → new.guess.id ≡ o.guess.id
  placed_id c n o new is = ap (λ (g : OpenGuess E). g.id) is.same.guess

  pub agreed_id : (es : List E) (c : ℕ → Bool) (b : Bool) (o new : Sharing E) → Agrees es c b o new → new.guess.id ≡ o.guess.id
  agreed_id es c b o new (inl is) = ap id_of is.0
  agreed_id es c b o new (inr is) = ap (λ (g : OpenGuess E). g.id) is.0.guess

  pub agreed_rising : (es : List E) (c : ℕ → Bool) (b : Bool) (os ls : List (Sharing E)) → AllZip (Agrees es c b) os ls → AreRising os → AreRising ls
  agreed_rising es c b os ls agree rises = subst (IsStrictlySortedBy nat_cmp) (sym (pairs_map (Agrees es c b) id_of id_of os ls (agreed_id es c b) agree)) rises

  pub roomier_rising : (n : ℕ) (os ls : List (Sharing E)) → AllZip (IsRoomier n) os ls → AreRising os → AreRising ls
  roomier_rising n os ls more rises =
      subst (IsStrictlySortedBy nat_cmp) (sym (pairs_map (IsRoomier n) id_of id_of os ls (λ o l is. ap (λ (g : OpenGuess E). g.id) is.guess) more)) rises

  -- ---- what is not among some stays
  pub unplaced : (c : ℕ → Bool) (n : ℕ) (o : Sharing E) → c o.guess.id ≡ false → IsPlaced c n o o
  unplaced c n o none = record { same = record { guess = refl; shares = refl; ready = λ r. r }; place = λ here. absurd (true≢false (sym here ∙ none)) }

  pub unchanged : (f : List E → List E) (c : ℕ → Bool) (o : Sharing E) → c o.guess.id ≡ false → IsChanged f c o o
  unchanged f c o none = record { sharing = λ _. refl; alone = λ _. ap (λ b. cond b (record o.guess { dependents = f o.guess.dependents }) o.guess) (sym none); shares = refl }

  pub unrelieved : (es : List E) (f : List E → List E) (tags own : List ℕ) (o : Sharing E) → has o.guess.id tags ≡ false → IsRelieved es f (is_beyond tags own) o o
  unrelieved es f tags own o none =
      let apart : is_beyond tags own o.guess.id ≡ false = ap (λ b. cond b (not (has o.guess.id own)) false) none in
      record { others = λ _. refl; guess = λ is. absurd (true≢false (sym is ∙ apart)); shares = λ is. absurd (true≢false (sym is ∙ apart)) }

  pub relieved_id : (es : List E) (f : List E → List E) (tags own : List ℕ) (o new : Sharing E) → IsRelieved es f (is_beyond tags own) o new → new.guess.id ≡ o.guess.id
  relieved_id es f tags own o new is = elim (cases_Bool (is_beyond tags own o.guess.id)) [
    | inl here ↦ ap (λ (g : OpenGuess E). g.id) (is.guess here)
    | inr none ↦ ap id_of (is.others none)
  ]

  -- ---- a pass that leaves out what is not among some
  module _ (P : Sharing E → Sharing E → Type 0) where
    pub record IsVisited (os ls : List (Sharing E)) (i : ℕ) : Type 0 where
      pub passed : IsPassed P os ls i
      pub ids : map id_of ls ≡ map id_of os

    jumped : (os ls : List (Sharing E)) (i j : ℕ) → IsPassed P os ls i → i ≤ j → ((k : ℕ) (d : Sharing E) → i ≤ k → k < j → P (slice_index_or ls k d) (slice_index_or ls k d)) → IsPassed P os ls j
    jumped os ls i j so le same = record {
      as_many = so.as_many;
      done = λ k d lt within. elim (cases_lt k i) [
        | inl less ↦ so.done k d less within
        | inr low ↦ subst (λ x. P x (slice_index_or ls k d)) (so.left k d low) (same k d low lt)
      ];
      left = λ k d low. so.left k d (omega (arith, low, le));
    }

    pub rising_so_far : (os ls : List (Sharing E)) (i : ℕ) → IsVisited os ls i → AreRising os → AreRising ls
    rising_so_far os ls i so rises = subst (IsStrictlySortedBy nat_cmp) (sym so.ids) rises

    pub still_rising : (os ls : List (Sharing E)) (i : ℕ) (l new : Sharing E) → IsVisited os ls i → l ≡ slice_index_or ls i l → new.guess.id ≡ l.guess.id → AreRising os → AreRising (slice_set ls i new)
    still_rising os ls i l new so at is rises = subst (IsStrictlySortedBy nat_cmp) (sym (same_ids ls i l new at is ∙ so.ids)) rises

    -- these are not among them
    module _ (c : ℕ → Bool) (stays : (o : Sharing E) → c o.guess.id ≡ false → P o o) (keeps : (o new : Sharing E) → P o new → new.guess.id ≡ o.guess.id) where
      abbrev NoneBetween : List (Sharing E) → ℕ → ℕ → Type 0
      NoneBetween ls i j = (k : ℕ) (d : Sharing E) → i ≤ k → k < j → c (slice_index_or ls k d).guess.id ≡ false

      pub first_visited : (os : List (Sharing E)) (j : ℕ) → NoneBetween os 0 j → IsVisited os os j
      first_visited os j none = record {
        passed = jumped os os 0 j (none_passed P os) (omega arith) (λ k d low lt. stays (slice_index_or os k d) (none k d low lt));
        ids = refl;
      }

      pub one_visited : (os ls : List (Sharing E)) (i j : ℕ) (l new : Sharing E) → IsVisited os ls i → i < length os → l ≡ slice_index_or ls i l → P l new
          → i + 1 ≤ j → NoneBetween (slice_set ls i new) (i + 1) j → IsVisited os (slice_set ls i new) j
      one_visited os ls i j l new so lt at is le none = record {
        passed = jumped os (slice_set ls i new) (i + 1) j (one_passed so.passed l new lt at is) le (λ k d low less. stays (slice_index_or (slice_set ls i new) k d) (none k d low less));
        ids = same_ids ls i l new at (keeps l new is) ∙ so.ids;
      }

  -- ---- those of a span alone share
  pub below_shares : (first last : ℕ) (o : Sharing E) → IsWithin first last o → o.guess.id < first → o.shares ≡ false
  below_shares first last o so lt = elim (cases_Bool o.shares) [
    | inl shares ↦ (let low = (so shares).0 in absurd (omega (arith, low, lt)))
    | inr own ↦ own
  ]

  pub above_shares : (first last : ℕ) (o : Sharing E) → IsWithin first last o → last < o.guess.id → o.shares ≡ false
  above_shares first last o so lt = elim (cases_Bool o.shares) [
    | inl shares ↦ (let high = (so shares).1 in absurd (omega (arith, high, lt)))
    | inr own ↦ own
  ]

  pub none_behind : (first last : ℕ) (os : List (Sharing E)) → AreWithin first last os → (i : ℕ) → ((k : ℕ) (d : Sharing E) → k < i → (slice_index_or os k d).shares ≡ false)
      → ((k : ℕ) (d : Sharing E) → i ≤ k → k < length os → last < (slice_index_or os k d).guess.id) → AllByRecursion (λ o. o.shares ≡ false) os
  none_behind first last os within i none past = all_from (λ (o : Sharing E). o.shares ≡ false) os (λ k d lt. elim (cases_lt k i) [
    | inl less ↦ none k d less
    | inr low ↦ above_shares first last (slice_index_or os k d) (all_at (IsWithin first last) os k d within lt) (past k d low lt)
  ])

  own_agrees : (es : List E) (c : ℕ → Bool) (b : Bool) (o : Sharing E) → o.shares ≡ false → Agrees es c b o o
  own_agrees es c b o own = inl (refl, λ shares. absurd (true≢false (sym shares ∙ own)))

  -- behind one that is above a number all are
  pub all_past : (os : List (Sharing E)) (i last : ℕ) (l : Sharing E) → AreRising os → l ≡ slice_index_or os i l → last < l.guess.id → (k : ℕ) (d : Sharing E) → i ≤ k → k < length os → last < (slice_index_or os k d).guess.id
  all_past os i last l rises at past k d low lt =
      let later = row_no_later os i k l d rises low lt in
      let here = ap id_of at in
      omega (arith, later, here, past)

  -- a pass over these
  module _ (first last : ℕ) (es : List E) (c : ℕ → Bool) (b : Bool) (os : List (Sharing E)) (within : AreWithin first last os) where
    pub from_first : (r : ℕ) → r ≤ length os → ((k : ℕ) (d : Sharing E) → 0 ≤ k → k < r → (slice_index_or os k d).guess.id < first) → IsVisited (Agrees es c b) os os r
    from_first r bound below = record {
      passed = jumped (Agrees es c b) os os 0 r (none_passed (Agrees es c b) os) (omega arith) (λ k d low lt.
          own_agrees es c b (slice_index_or os k d)
          (below_shares first last (slice_index_or os k d) (all_at (IsWithin first last) os k d within (omega (arith, lt, bound))) (below k d low lt)));
      ids = refl;
    }

    pub to_last : (ls : List (Sharing E)) (i : ℕ) → IsVisited (Agrees es c b) os ls i → ((k : ℕ) (d : Sharing E) → i ≤ k → k < length ls → last < (slice_index_or ls k d).guess.id) → AllZip (Agrees es c b) os ls
    to_last ls i so past = all_pairs (Agrees es c b) os ls so.passed.as_many (λ k d near. elim (cases_lt k i) [
      | inl less ↦ so.passed.done k d less near
      | inr low ↦
          (let same = so.passed.left k d low in
          let many = so.passed.as_many in
          subst (λ x. Agrees es c b (slice_index_or os k d) x) (sym same)
          (own_agrees es c b (slice_index_or os k d)
          (above_shares first last (slice_index_or os k d) (all_at (IsWithin first last) os k d within near)
          (subst (λ (x : Sharing E). last < x.guess.id) same (past k d low (omega (arith, near, many)))))))
    ])

  pub one_more : (P : Sharing E → Sharing E → Type 0) (os ls : List (Sharing E)) (i : ℕ) (l new : Sharing E) → IsVisited P os ls i → i < length os → l ≡ slice_index_or ls i l → P l new → new.guess.id ≡ l.guess.id
      → IsVisited P os (slice_set ls i new) (i + 1)
  one_more P os ls i l new so lt at is same = record { passed = one_passed so.passed l new lt at is; ids = same_ids ls i l new at same ∙ so.ids }

  -- they stay so
  module _ (first last : ℕ) where
    same_within : (o l : Sharing E) → l.guess.id ≡ o.guess.id → (l.shares ≡ true → o.shares ≡ true) → IsWithin first last o → IsWithin first last l
    same_within o l id shares so = λ here. subst (λ n. (first ≤ n) × (n ≤ last)) (sym id) (so (shares here))

    pub roomier_within : (n : ℕ) (os ls : List (Sharing E)) → AllZip (IsRoomier n) os ls → AreWithin first last os → AreWithin first last ls
    roomier_within n os ls more all =
        pairs_all (IsRoomier n) (IsWithin first last) (IsWithin first last) os ls
        (λ o l so is. same_within o l (ap (λ (g : OpenGuess E). g.id) is.guess) (λ here. sym is.shares ∙ here) so) all more

    agreed_shares : (es : List E) (c : ℕ → Bool) (b : Bool) (o l : Sharing E) → Agrees es c b o l → l.shares ≡ true → o.shares ≡ true
    agreed_shares es c b o l (inl is) here = sym (ap (λ (x : Sharing E). x.shares) is.0) ∙ here
    agreed_shares es c b o l (inr is) here = is.0.shared

    pub agreed_within : (es : List E) (c : ℕ → Bool) (b : Bool) (os ls : List (Sharing E)) → AllZip (Agrees es c b) os ls → AreWithin first last os → AreWithin first last ls
    agreed_within es c b os ls agree all =
        pairs_all (Agrees es c b) (IsWithin first last) (IsWithin first last) os ls
        (λ o l so is. same_within o l (agreed_id es c b o l is) (agreed_shares es c b o l is) so) all agree

    pub changed_within : (f : List E → List E) (c : ℕ → Bool) (os ls : List (Sharing E)) → AllZip (IsChanged f c) os ls → AreWithin first last os → AreWithin first last ls
    changed_within f c os ls change all =
        pairs_all (IsChanged f c) (IsWithin first last) (IsWithin first last) os ls
        (λ o l so is. same_within o l (changed_id f c o l is) (λ here. sym is.shares ∙ here) so) all change

    pub relieved_within : (es : List E) (f : List E → List E) (tags own : List ℕ) (os ls : List (Sharing E)) → AllZip (IsRelieved es f (is_beyond tags own)) os ls → AreWithin first last os → AreWithin first last ls
    relieved_within es f tags own os ls relief all =
        pairs_all (IsRelieved es f (is_beyond tags own)) (IsWithin first last) (IsWithin first last) os ls
        (λ o l so is. same_within o l (relieved_id es f tags own o l is)
        (λ here. elim (cases_Bool (is_beyond tags own o.guess.id)) [
          | inl there ↦ absurd (true≢false (sym here ∙ is.shares there))
          | inr none ↦ sym (ap (λ (x : Sharing E). x.shares) (is.others none)) ∙ here
        ]) so) all relief

    pub within_more : (os : List (Sharing E)) (o : Sharing E) → AreWithin first last os → IsWithin first last o → AreWithin first last (os ++ o ∷ [])
    within_more [] o all is = (is, tt)
    within_more (x ∷ os) o all is = (all.0, within_more os o all.1 is)

    pub within_remove : (os : List (Sharing E)) (i : ℕ) → i < length os → AreWithin first last os → AreWithin first last (remove os i)
    within_remove [] i lt all = absurd (omega arith)
    within_remove (o ∷ os) zero lt all = all.1
    within_remove (o ∷ os) (suc i) lt all = (all.0, within_remove os i (omega arith) all.1)

    pub within_set : (os : List (Sharing E)) (i : ℕ) (new : Sharing E) → AreWithin first last os → IsWithin first last new → AreWithin first last (slice_set os i new)
    within_set [] i new all is = tt
    within_set (o ∷ os) zero new all is = (is, all.1)
    within_set (o ∷ os) (suc i) new all is = (all.0, within_set os i new all.1 is)

  pub wider : (first last low high : ℕ) (os : List (Sharing E)) → low ≤ first → last ≤ high → AreWithin first last os → AreWithin low high os
  wider first last low high [] le ge all = tt
  wider first last low high (o ∷ os) le ge all =
      ((λ here. let low_is = (all.0 here).0 in let high_is = (all.0 here).1 in (omega (arith, le, low_is), omega (arith, ge, high_is))), wider first last low high os le ge all.1)

  -- where none shares
  pub none_within : (first last : ℕ) (os : List (Sharing E)) → AllByRecursion (λ o. o.shares ≡ false) os → AreWithin first last os
  none_within first last [] all = tt
  none_within first last (o ∷ os) all = ((λ here. absurd (true≢false (sym here ∙ all.0))), none_within first last os all.1)

  -- and one begins to
  pub one_shares : (n id : ℕ) (os : List (Sharing E)) (i : ℕ) (new : Sharing E) → AllByRecursion (λ o. o.shares ≡ false) os → IsReady n new → IsWithin id id new
      → AreReady n (slice_set os i new) × AreWithin id id (slice_set os i new)
  one_shares n id [] i new all ready within = (tt, tt)
  one_shares n id (o ∷ os) zero new all ready within =
      ((ready, none_ready os all.1), (within, none_within id id os all.1)) where
        none_ready : (xs : List (Sharing E)) → AllByRecursion (λ o. o.shares ≡ false) xs → AreReady n xs
        none_ready [] none = tt
        none_ready (x ∷ xs) none = ((λ here. absurd (true≢false (sym here ∙ none.0))), none_ready xs none.1)
  one_shares n id (o ∷ os) (suc i) new all ready within =
      let rest = one_shares n id os i new all.1 ready within in
      (((λ here. absurd (true≢false (sym here ∙ all.0))), rest.0), ((λ here. absurd (true≢false (sym here ∙ all.0))), rest.1))

  -- still none
  pub more_none : (P : Sharing E → Type 0) (c : ℕ → Bool) (os : List (Sharing E)) (i j : ℕ) → ((k : ℕ) (d : Sharing E) → k < i → P (slice_index_or os k d)) → ((o : Sharing E) → c o.guess.id ≡ false → P o)
      → ((k : ℕ) (d : Sharing E) → i ≤ k → k < j → c (slice_index_or os k d).guess.id ≡ false) → (k : ℕ) (d : Sharing E) → k < j → P (slice_index_or os k d)
  more_none P c os i j so stays none k d lt = elim (cases_lt k i) [
    | inl less ↦ so k d less
    | inr low ↦ stays (slice_index_or os k d) (none k d low lt)
  ]
