-- Notes as they are kept: what is seen of them where one is added, joined with another, left out or put back.
use Rattle.std.proofs.lemmas.Bool.Decides.{nat_tests}
use Rattle.sk_slots.proofs.Names.{◌≡◌, ℕ, zero, suc, ◌+◌, ◌-◌, ◌<◌, ◌≤◌, length, take, drop, true, false, not, cond}
use Rattle.sk_slots.proofs.Names.{List, [], ◌∷◌, ◌++◌, Option, Some, None, refl, sym, ◌∙◌, ap, subst, arith, ◌==◌}
use Rattle.sk_slots.proofs.Names.{is_none, is_some, slice_index_or, slice_set, prefix_len, true≢false, Note, has}
use Rattle.sk_slots.proofs.Names.{without, noted, last_tags, unwound, committed, same_tags, value_before, CanJoin}
use Rattle.sk_slots.proofs.Names.{FitsBefore, Before, Was, Changed, Kept, newest_tags, rewound, seen, CanGoBack}
use Rattle.sk_slots.proofs.Names.{is_empty, noted_on, are_of, and_both}
use Rattle.std.specs.List.{list_all, remove}
use Rattle.sk_slots.proofs.Joins.{AllFree, HasTags, without_twice}

module _ {V U : Type 0} (undone : U → V → V) where
  -- ---- what does not depend on what is there
  pub seen_tags : (now : Option V) (t : List ℕ) (ks : List (Kept V U)) → last_tags t (seen undone now ks) ≡ newest_tags t ks
  seen_tags now t [] = refl
  seen_tags now t (k ∷ ks) = seen_tags now k.tags ks

  pub seen_front_tags : (now : Option V) (t : List ℕ) (i : ℕ) (ks : List (Kept V U)) → last_tags t (take i (seen undone now ks)) ≡ newest_tags t (take i ks)
  seen_front_tags now t zero [] = refl
  seen_front_tags now t (suc i) [] = refl
  seen_front_tags now t zero (k ∷ ks) = refl
  seen_front_tags now t (suc i) (k ∷ ks) = seen_front_tags now k.tags i ks

  pub seen_empty : (now : Option V) (ks : List (Kept V U)) → is_empty (seen undone now ks) ≡ is_empty ks
  seen_empty now [] = refl
  seen_empty now (k ∷ ks) = refl

  pub seen_length : (now : Option V) (ks : List (Kept V U)) → length (seen undone now ks) ≡ length ks
  seen_length now [] = refl
  seen_length now (k ∷ ks) = ap suc (seen_length now ks)

  pub seen_prefix : (g : ℕ) (now : Option V) (ks : List (Kept V U)) → prefix_len (λ n. not (has g n.tags)) (seen undone now ks) ≡ prefix_len (λ n. not (has g n.tags)) ks
  seen_prefix g now [] = refl
  seen_prefix g now (k ∷ ks) = ap (λ n. cond (not (has g k.tags)) (1 + n) 0) (seen_prefix g now ks)

  pub seen_at : (now : Option V) (i : ℕ) (ks : List (Kept V U)) (k : Kept V U) → i < length ks → k ≡ slice_index_or ks i k
      → (n : Note V) × (n.tags ≡ k.tags) × (n ≡ slice_index_or (seen undone now ks) i n)
  seen_at now i [] k lt is = absurd (omega arith)
  seen_at now zero (x ∷ ks) k lt is = (record { tags = x.tags; before = value_before undone x.before (rewound undone now ks) }, ap (λ (y : Kept V U). y.tags) (sym is), refl)
  seen_at now (suc i) (x ∷ ks) k lt is = seen_at now i ks k (omega arith) is

  -- ---- a note more
  pub rewound_more : (now : Option V) (ks : List (Kept V U)) (k : Kept V U) → rewound undone now (ks ++ k ∷ []) ≡ rewound undone (value_before undone k.before now) ks
  rewound_more now [] k = refl
  rewound_more now (x ∷ ks) k = ap (value_before undone x.before) (rewound_more now ks k)

  pub seen_more : (now : Option V) (ks : List (Kept V U)) (k : Kept V U)
      → seen undone now (ks ++ k ∷ []) ≡ seen undone (value_before undone k.before now) ks ++ record { tags = k.tags; before = value_before undone k.before now } ∷ []
  seen_more now [] k = refl
  seen_more now (x ∷ ks) k = λ i. record { tags = x.tags; before = value_before undone x.before (rewound_more now ks k i) } ∷ seen_more now ks k i

  -- a write that is noted
  pub noted_one : (now : Option V) (tags : List ℕ) (ks : List (Kept V U)) (k : Kept V U) → k.tags ≡ tags → same_tags tags (newest_tags [] ks) ≡ false
      → seen undone now (ks ++ k ∷ []) ≡ noted_on tags (value_before undone k.before now) (seen undone (value_before undone k.before now) ks)
  noted_one now tags ks k own off = grind (arith, nat_tests, seen_more now ks k, seen_tags)

  -- and one that is not
  pub noted_none : (was : Option V) (tags : List ℕ) (ks : List (Kept V U)) → same_tags tags (newest_tags [] ks) ≡ true → seen undone was ks ≡ noted_on tags was (seen undone was ks)
  noted_none was tags ks on = grind (arith, nat_tests, seen_tags was [] ks)

  -- ---- the notes up to a place, once the later ones are put back
  pub rewound_front : (now : Option V) (i : ℕ) (ks : List (Kept V U)) → rewound undone (rewound undone now (drop i ks)) (take i ks) ≡ rewound undone now ks
  rewound_front now zero [] = refl
  rewound_front now (suc i) [] = refl
  rewound_front now zero (k ∷ ks) = refl
  rewound_front now (suc i) (k ∷ ks) = ap (value_before undone k.before) (rewound_front now i ks)

  pub seen_front : (now : Option V) (i : ℕ) (ks : List (Kept V U)) → seen undone (rewound undone now (drop i ks)) (take i ks) ≡ take i (seen undone now ks)
  seen_front now zero [] = refl
  seen_front now (suc i) [] = refl
  seen_front now zero (k ∷ ks) = refl
  seen_front now (suc i) (k ∷ ks) = λ j. record { tags = k.tags; before = value_before undone k.before (rewound_front now i ks j) } ∷ seen_front now i ks j

  -- what was there before the first that depends on the guess
  pub rewound_first : (g : ℕ) (now : Option V) (ks : List (Kept V U)) (i : ℕ) → i ≡ prefix_len (λ n. not (has g n.tags)) ks → rewound undone now (drop i ks) ≡ unwound g (seen undone now ks) now
  rewound_first g now [] zero is = refl
  rewound_first g now [] (suc i) is = refl
  rewound_first g now (k ∷ ks) i is =
      elim (has g k.tags) as (λ b. i ≡ cond (not b) (1 + prefix_len (λ n. not (has g n.tags)) ks) 0
      → rewound undone now (drop i (k ∷ ks)) ≡ cond b (value_before undone k.before (rewound undone now ks)) (unwound g (seen undone now ks) now)) [
        | true ↦ λ first. ap (λ j. rewound undone now (drop j (k ∷ ks))) first
        | false ↦ λ later.
            let next : i ≡ suc (prefix_len (λ n. not (has g n.tags)) ks) = omega arith in
            ap (λ j. rewound undone now (drop j (k ∷ ks))) next ∙ rewound_first g now ks (prefix_len (λ n. not (has g n.tags)) ks) refl
      ] is

module _ {V U : Type 0} (undone : U → V → V) (fits : U → V → Type 0) where
  -- ---- a note more, and one less
  pub can_more : (now : Option V) (ks : List (Kept V U)) (k : Kept V U) → FitsBefore fits k.before now → CanGoBack undone fits (value_before undone k.before now) ks
      → CanGoBack undone fits now (ks ++ k ∷ [])
  can_more now [] k fit can = (fit, tt)
  can_more now (x ∷ ks) k fit can = (subst (FitsBefore fits x.before) (sym (rewound_more undone now ks k)) can.0, can_more now ks k fit can.1)

  pub can_less : (now : Option V) (ks : List (Kept V U)) (k : Kept V U) → CanGoBack undone fits now (ks ++ k ∷ [])
      → FitsBefore fits k.before now × CanGoBack undone fits (value_before undone k.before now) ks
  can_less now [] k can = (can.0, tt)
  can_less now (x ∷ ks) k can = grind (arith, nat_tests, can_less now ks k can.1, rewound_more undone now ks k)

  -- ---- two writes that are put back by one
  abbrev pub Joins : Before V U → Before V U → Before V U → Type 0
  Joins later earlier both = (now : Option V) → FitsBefore fits later now → FitsBefore fits earlier (value_before undone later now)
      → FitsBefore fits both now × (value_before undone both now ≡ value_before undone earlier (value_before undone later now))

  pub can_join : (later earlier : Before V U) (now : Option V) → FitsBefore fits later now → FitsBefore fits earlier (value_before undone later now) → CanJoin fits later earlier
  can_join (Was value) earlier now fit can = can
  can_join (Changed undo) earlier now fit can = tt

  -- the newest note takes a later write in
  pub newest_can : (now : Option V) (later : Before V U) (j : ℕ) (ks : List (Kept V U)) (m : Kept V U) → suc j ≡ length ks → m ≡ slice_index_or ks j m
      → FitsBefore fits later now → CanGoBack undone fits (value_before undone later now) ks → CanJoin fits later m.before
  newest_can now later j [] m len is fit can = absurd (omega arith)
  newest_can now later zero (x ∷ []) m len is fit can = subst (λ (y : Kept V U). CanJoin fits later y.before) (sym is) (can_join later x.before now fit can.0)
  newest_can now later (suc j) (x ∷ []) m len is fit can = absurd (omega arith)
  newest_can now later zero (x ∷ y ∷ ks) m len is fit can = absurd (omega arith)
  newest_can now later (suc j) (x ∷ y ∷ ks) m len is fit can = newest_can now later j (y ∷ ks) m (omega arith) is fit can.1

  pub newest_in : (now : Option V) (later : Before V U) (j : ℕ) (ks : List (Kept V U)) (m both : Kept V U) → suc j ≡ length ks → m ≡ slice_index_or ks j m → both.tags ≡ m.tags → Joins later m.before both.before
      → FitsBefore fits later now → CanGoBack undone fits (value_before undone later now) ks
      → (seen undone now (slice_set ks j both) ≡ seen undone (value_before undone later now) ks) × CanGoBack undone fits now (slice_set ks j both)
      × (rewound undone now (slice_set ks j both) ≡ rewound undone (value_before undone later now) ks)
  newest_in now later j [] m both len is tags joins fit can = absurd (omega arith)
  newest_in now later zero (x ∷ []) m both len is tags joins fit can = grind (arith, nat_tests)
  newest_in now later (suc j) (x ∷ []) m both len is tags joins fit can = absurd (omega arith)
  newest_in now later zero (x ∷ y ∷ ks) m both len is tags joins fit can = absurd (omega arith)
  newest_in now later (suc j) (x ∷ y ∷ ks) m both len is tags joins fit can =
      grind (arith, nat_tests, newest_in now later j (y ∷ ks) m both (omega arith) is tags joins fit can.1)

  -- a note is left out, which the one before it takes in
  pub left_can : (now : Option V) (j : ℕ) (ks : List (Kept V U)) (n m : Kept V U) → suc j < length ks → n ≡ slice_index_or ks (suc j) n → m ≡ slice_index_or (remove ks (suc j)) j m
      → CanGoBack undone fits now ks → CanJoin fits n.before m.before
  left_can now j [] n m lt is was can = absurd (omega arith)
  left_can now zero (x ∷ []) n m lt is was can = absurd (omega arith)
  left_can now zero (x ∷ y ∷ ks) n m lt is was can =
      grind (arith, nat_tests, can_join y.before x.before (rewound undone now ks) can.1.0 can.0)
  left_can now (suc j) (x ∷ ks) n m lt is was can = left_can now j ks n m (omega arith) is was can.1

  pub left_in : (now : Option V) (j : ℕ) (ks : List (Kept V U)) (n m both : Kept V U) → suc j < length ks → n ≡ slice_index_or ks (suc j) n → m ≡ slice_index_or (remove ks (suc j)) j m
      → both.tags ≡ m.tags → Joins n.before m.before both.before → CanGoBack undone fits now ks
      → (seen undone now (slice_set (remove ks (suc j)) j both) ≡ remove (seen undone now ks) (suc j)) × CanGoBack undone fits now (slice_set (remove ks (suc j)) j both)
      × (rewound undone now (slice_set (remove ks (suc j)) j both) ≡ rewound undone now ks)
  left_in now j [] n m both lt is was tags joins can = absurd (omega arith)
  left_in now zero (x ∷ []) n m both lt is was tags joins can = absurd (omega arith)
  left_in now zero (x ∷ y ∷ ks) n m both lt is was tags joins can = grind (arith, nat_tests)
  left_in now (suc j) (x ∷ ks) n m both lt is was tags joins can =
      grind (arith, nat_tests, left_in now j ks n m both (omega arith) is was tags joins can.1)

  -- the first note is left out
  pub first_out : (now : Option V) (ks : List (Kept V U)) → 0 < length ks → CanGoBack undone fits now ks
      → (seen undone now (remove ks 0) ≡ remove (seen undone now ks) 0) × CanGoBack undone fits now (remove ks 0)
  first_out now [] lt can = absurd (omega arith)
  first_out now (x ∷ ks) lt can = (refl, can.1)

  pub can_front : (now : Option V) (i : ℕ) (ks : List (Kept V U)) → CanGoBack undone fits now ks → CanGoBack undone fits (rewound undone now (drop i ks)) (take i ks)
  can_front now zero [] can = tt
  can_front now (suc i) [] can = tt
  can_front now zero (k ∷ ks) can = tt
  can_front now (suc i) (k ∷ ks) can = (subst (FitsBefore fits k.before) (sym (rewound_front undone now i ks)) can.0, can_front now i ks can.1)

  -- ---- a guess is taken out of one note
  pub lighter : (g : ℕ) (now : Option V) (i : ℕ) (ks : List (Kept V U)) (n one : Kept V U) → i < length ks → n ≡ slice_index_or ks i n → one ≡ record { tags = without g n.tags; before = n.before }
      → CanGoBack undone fits now ks
      → CanGoBack undone fits now (slice_set ks i one) × (committed g (seen undone now (slice_set ks i one)) ≡ committed g (seen undone now ks))
      × (take i (seen undone now (slice_set ks i one)) ≡ take i (seen undone now ks)) × (rewound undone now (slice_set ks i one) ≡ rewound undone now ks)
  lighter g now i [] n one lt is of can = absurd (omega arith)
  lighter g now zero (x ∷ ks) n one lt is of can = grind (arith, nat_tests, without_twice g x.tags)
  lighter g now (suc i) (x ∷ ks) n one lt is of can =
      grind (arith, nat_tests, lighter g now i ks n one (omega arith) is of can.1)

module _ {V U : Type 0} (undone : U → V → V) where
  -- it still depends on something
  pub more_free : (g : ℕ) (now : Option V) (i : ℕ) (ks : List (Kept V U)) (one : Kept V U) → i < length ks → without g one.tags ≡ one.tags → HasTags one.tags
      → AllFree g (take i (seen undone now (slice_set ks i one))) → AllFree g (take (suc i) (seen undone now (slice_set ks i one)))
  more_free g now i [] one lt free some all = absurd (omega arith)
  more_free g now zero (x ∷ ks) one lt free some all = (free, some, tt)
  more_free g now (suc i) (x ∷ ks) one lt free some all = (all.0, all.1, more_free g now i ks one (omega arith) free some all.2)

  -- it depends on nothing
  pub bare_out : (g : ℕ) (now : Option V) (i : ℕ) (ks : List (Kept V U)) (one : Kept V U) → i < length ks → without g one.tags ≡ []
      → committed g (remove (seen undone now (slice_set ks i one)) i) ≡ committed g (seen undone now (slice_set ks i one))
  bare_out g now i [] one lt none = absurd (omega arith)
  bare_out g now zero (x ∷ ks) one lt none = ap (λ ts. noted true ts (value_before undone one.before (rewound undone now ks)) (committed g (seen undone now ks))) (sym none)
  bare_out g now (suc i) (x ∷ ks) one lt none = grind (arith, nat_tests, bare_out g now i ks one (omega arith) none)

-- whether a list is empty
pub some_tags : (tags : List ℕ) → not (is_empty tags) ≡ true → HasTags tags
some_tags [] some = absurd (true≢false (sym some))
some_tags (t ∷ tags) some = tt

pub no_tags : (tags : List ℕ) → not (is_empty tags) ≡ false → tags ≡ []
no_tags [] none = refl
no_tags (t ∷ tags) none = absurd (true≢false none)

-- ---- the last of a list
module _ {A : Type 0} where
  pub take_more : (i : ℕ) (xs : List A) (x : A) → i ≤ length xs → take i (xs ++ x ∷ []) ≡ take i xs
  take_more zero [] x le = refl
  take_more zero (y ∷ xs) x le = refl
  take_more (suc i) [] x le = absurd (omega arith)
  take_more (suc i) (y ∷ xs) x le = ap (λ ys. y ∷ ys) (take_more i xs x (omega arith))

  pub drop_more : (i : ℕ) (xs : List A) (x : A) → i ≤ length xs → drop i (xs ++ x ∷ []) ≡ drop i xs ++ x ∷ []
  drop_more zero [] x le = refl
  drop_more zero (y ∷ xs) x le = refl
  drop_more (suc i) [] x le = absurd (omega arith)
  drop_more (suc i) (y ∷ xs) x le = drop_more i xs x (omega arith)

  pub long_more : (xs : List A) (x : A) → length (xs ++ x ∷ []) ≡ suc (length xs)
  long_more [] x = refl
  long_more (y ∷ xs) x = ap suc (long_more xs x)

  pub set_length : (xs : List A) (i : ℕ) (x : A) → length (slice_set xs i x) ≡ length xs
  set_length [] i x = refl
  set_length (y ∷ xs) zero x = refl
  set_length (y ∷ xs) (suc i) x = ap suc (set_length xs i x)

module _ {V U : Type 0} where
  -- ---- the newest note
  pub newest_at : (t : List ℕ) (ks : List (Kept V U)) (k : Kept V U) (i : ℕ) → i + 1 ≡ length ks → k ≡ slice_index_or ks i k → k.tags ≡ newest_tags t ks
  newest_at t [] k i is at = absurd (omega arith)
  newest_at t (x ∷ []) k zero is at = ap (λ (m : Kept V U). m.tags) at
  newest_at t (x ∷ []) k (suc i) is at = absurd (omega arith)
  newest_at t (x ∷ y ∷ ks) k zero is at = absurd (omega arith)
  newest_at t (x ∷ y ∷ ks) k (suc i) is at = newest_at x.tags (y ∷ ks) k i (omega arith) at

  pub newest : (ks : List (Kept V U)) (k : Kept V U) → 0 < length ks → ((d : Kept V U) → k ≡ slice_index_or ks (length ks - 1) d) → k.tags ≡ newest_tags [] ks
  newest ks k some at = newest_at [] ks k (length ks - 1) (omega arith) (at k)

  pub newest_more : (t : List ℕ) (ks : List (Kept V U)) (k : Kept V U) → newest_tags t (ks ++ k ∷ []) ≡ k.tags
  newest_more t [] k = refl
  newest_more t (x ∷ ks) k = newest_more x.tags ks k

module _ {V U : Type 0} (undone : U → V → V) (fits : U → V → Type 0) where
  pub left_can_at : (now : Option V) (i j : ℕ) (ks : List (Kept V U)) (n m : Kept V U) → i ≡ suc j → i < length ks → n ≡ slice_index_or ks i n → m ≡ slice_index_or (remove ks i) j m
      → CanGoBack undone fits now ks → CanJoin fits n.before m.before
  left_can_at now i j ks n m next lt is was can =
      subst (λ p. p < length ks → n ≡ slice_index_or ks p n → m ≡ slice_index_or (remove ks p) j m → CanJoin fits n.before m.before) (sym next)
      (λ lt is was. left_can undone fits now j ks n m lt is was can) lt is was

  pub left_in_at : (now : Option V) (i j : ℕ) (ks : List (Kept V U)) (n m both : Kept V U) → i ≡ suc j → i < length ks → n ≡ slice_index_or ks i n → m ≡ slice_index_or (remove ks i) j m
      → both.tags ≡ m.tags → Joins undone fits n.before m.before both.before → CanGoBack undone fits now ks
      → (seen undone now (slice_set (remove ks i) j both) ≡ remove (seen undone now ks) i) × CanGoBack undone fits now (slice_set (remove ks i) j both)
  left_in_at now i j ks n m both next lt is was tags joins can =
      subst (λ p. p < length ks → n ≡ slice_index_or ks p n → m ≡ slice_index_or (remove ks p) j m
      → (seen undone now (slice_set (remove ks p) j both) ≡ remove (seen undone now ks) p) × CanGoBack undone fits now (slice_set (remove ks p) j both)) (sym next)
      (λ lt is was. let all = left_in undone fits now j ks n m both lt is was tags joins can in (all.0, all.1)) lt is was

  pub first_out_at : (now : Option V) (i : ℕ) (ks : List (Kept V U)) → i ≡ 0 → i < length ks → CanGoBack undone fits now ks
      → (seen undone now (remove ks i) ≡ remove (seen undone now ks) i) × CanGoBack undone fits now (remove ks i)
  first_out_at now i ks is lt can =
      subst (λ p. p < length ks → (seen undone now (remove ks p) ≡ remove (seen undone now ks) p) × CanGoBack undone fits now (remove ks p)) (sym is) (λ lt. first_out undone fits now ks lt can) lt

pub empty_len : {A : Type 0} (xs : List A) (n : ℕ) → n ≡ length xs → (n == 0) ≡ is_empty xs
empty_len [] n is = ap (λ k. k == 0) is
empty_len (x ∷ xs) n is = grind (arith, nat_tests)

pub none_of : {A : Type 0} (o : Option A) → is_some o ≡ false → true ≡ is_none o
none_of None is = refl
none_of (Some x) is = absurd (true≢false is)

without_of : (g : ℕ) (tags : List ℕ) → are_of g tags ≡ true → without g tags ≡ []
without_of g [] of = refl
without_of g (t ∷ tags) of = grind (arith, nat_tests, without_of g tags)

-- of notes that depend on no guess but one its commit leaves none
pub none_left : {V U : Type 0} (undone : U → V → V) (g : ℕ) (now : Option V) (ks : List (Kept V U)) → list_all (λ n. are_of g n.tags) ks ≡ true → committed g (seen undone now ks) ≡ []
none_left undone g now [] of = refl
none_left undone g now (k ∷ ks) of =
    let both = and_both _ _ of in
    ap (λ ts. noted true ts (value_before undone k.before (rewound undone now ks)) (committed g (seen undone now ks))) (without_of g k.tags both.0)
    ∙ none_left undone g now ks both.1
