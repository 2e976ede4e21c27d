-- Values in the order of their keys: what a write, one more and one less make of them.
use Rattle.sk_guesses.proofs.Names.{◌≡◌, ◌≢◌, ℕ, zero, suc, ◌+◌, ◌<◌, length, true, false, cond, List, ◌∷◌, ◌++◌}
use Rattle.sk_guesses.proofs.Names.{Option, Some, Result, sym, ◌∙◌, arith, count_by, ◌==◌, slice_set}
use Rattle.sk_guesses.proofs.Names.{slice_index_or, is_some, OnOk, remove, eq-eqb, or_left, or_right, get_or-set_same}
use Rattle.sk_guesses.proofs.Names.{list_any-append, sum_by-cons, Slab, slab_len, with_value, Updates, cons_option, in_order}
use Rattle.sk_guesses.proofs.Names.{ArePresent, AreApart, AreKeys}
use Rattle.std.proofs.Common.{[], None, Ok, Err, refl, ap}
use Rattle.std.proofs.lemmas.Bool.{true≢false}
use Rattle.std.proofs.lemmas.List.{get_or-set_other}
use Rattle.sk_record.specs.Notes.{has}
use Rattle.std.proofs.lemmas.Bool.Decides.{nat_tests}

pub on_ok : {A B : Type 0} (r : Result A B) (P Q : Type 0) → (P → Q) → OnOk r P → OnOk r Q
on_ok (Ok x) P Q f p = f p
on_ok (Err e) P Q f p = tt

-- ---- keys
pub among : (ks : List ℕ) (i k : ℕ) → i < length ks → k ≡ slice_index_or ks i k → has k ks ≡ true
among [] i k lt at = absurd (omega arith)
among (j ∷ ks) zero k lt at = or_left _ _ (eq-eqb j k (sym at))
among (j ∷ ks) (suc i) k lt at = or_right _ _ (among ks i k (omega arith) at)

-- a key further on is another
later : (ks : List ℕ) (i j k : ℕ) → has j ks ≡ false → i < length ks → k ≡ slice_index_or ks i k → j ≢ k
later ks i j k none lt at = λ same. true≢false (sym (among ks i k lt at) ∙ ap (λ m. has m ks) (sym same) ∙ none)

not_left : (j : ℕ) (ks : List ℕ) (i : ℕ) → i < length ks → has j ks ≡ false → has j (remove ks i) ≡ false
not_left j [] i lt none = absurd (omega arith)
not_left j (m ∷ ks) zero lt none = grind (arith, nat_tests)
not_left j (m ∷ ks) (suc i) lt none = grind (arith, nat_tests, not_left j ks i)

pub apart_left : (ks : List ℕ) (i : ℕ) → i < length ks → AreApart ks → AreApart (remove ks i)
apart_left [] i lt apart = absurd (omega arith)
apart_left (j ∷ ks) zero lt apart = apart.1
apart_left (j ∷ ks) (suc i) lt apart = (not_left j ks i (omega arith) apart.0, apart_left ks i (omega arith) apart.1)

pub apart_more : (ks : List ℕ) (k : ℕ) → has k ks ≡ false → AreApart ks → AreApart (ks ++ k ∷ [])
apart_more [] k none apart = (refl, tt)
apart_more (j ∷ ks) k none apart = grind (arith, nat_tests, list_any-append (λ t. t == j) ks (k ∷ []), apart_more ks k)

pub length_more : (ks : List ℕ) (k : ℕ) → length (ks ++ k ∷ []) ≡ suc (length ks)
length_more [] k = refl
length_more (j ∷ ks) k = ap suc (length_more ks k)

module _ {T : Type 0} where
  some_of : (o : Option T) → is_some o ≡ true → (x : T) × (o ≡ Some x)
  some_of None is = absurd (true≢false (sym is))
  some_of (Some x) is = (x, refl)

  within : (slots : List (Option T)) (j : ℕ) → is_some (slice_index_or slots j None) ≡ true → j < length slots
  within [] j is = absurd (true≢false (sym is))
  within (o ∷ slots) zero is = omega arith
  within (o ∷ slots) (suc j) is = omega (arith, within slots j is)

  before_more : (o : Option T) (xs ys : List T) → cons_option o (xs ++ ys) ≡ cons_option o xs ++ ys
  before_more None xs ys = refl
  before_more (Some x) xs ys = refl

  pub as_many : (slots : List (Option T)) (ks : List ℕ) → ArePresent slots ks → length (in_order slots ks) ≡ length ks
  as_many slots [] all = refl
  as_many slots (k ∷ ks) all =
      ap (λ o. length (cons_option o (in_order slots ks))) (some_of (slice_index_or slots k None) all.0).1 ∙ ap suc (as_many slots ks all.1)

  pub present_at : (slots : List (Option T)) (ks : List ℕ) (i k : ℕ) → ArePresent slots ks → i < length ks → k ≡ slice_index_or ks i k → is_some (slice_index_or slots k None) ≡ true
  present_at slots [] i k all lt at = absurd (omega arith)
  present_at slots (j ∷ ks) zero k all lt at = ap (λ m. is_some (slice_index_or slots m None)) at ∙ all.0
  present_at slots (j ∷ ks) (suc i) k all lt at = present_at slots ks i k all.1 (omega arith) at

  pub value_at : (slots : List (Option T)) (ks : List ℕ) (i k : ℕ) (x d : T) → ArePresent slots ks → i < length ks → k ≡ slice_index_or ks i k → slice_index_or slots k None ≡ Some x
      → slice_index_or (in_order slots ks) i d ≡ x
  value_at slots [] i k x d all lt at is = absurd (omega arith)
  value_at slots (j ∷ ks) zero k x d all lt at is =
      ap (λ o. slice_index_or (cons_option o (in_order slots ks)) 0 d) (ap (λ m. slice_index_or slots m None) (sym at) ∙ is)
  value_at slots (j ∷ ks) (suc i) k x d all lt at is =
      ap (λ o. slice_index_or (cons_option o (in_order slots ks)) (suc i) d) (some_of (slice_index_or slots j None) all.0).1
      ∙ value_at slots ks i k x d all.1 (omega arith) at is

  -- ---- slots that agree at these keys
  pub Agree : List (Option T) → List (Option T) → List ℕ → Type 0
  Agree old new ks = (j : ℕ) → has j ks ≡ true → slice_index_or new j None ≡ slice_index_or old j None

  further : (old new : List (Option T)) (k : ℕ) (ks : List ℕ) → Agree old new (k ∷ ks) → Agree old new ks
  unfolding Agree
  further old new k ks same = λ j here. same j (or_right _ _ here)

  pub same_in : (old new : List (Option T)) (ks : List ℕ) → Agree old new ks → in_order new ks ≡ in_order old ks
  unfolding Agree
  same_in old new [] same = refl
  same_in old new (j ∷ ks) same =
      ap (λ o. cons_option o (in_order new ks)) (same j (or_left _ _ (eq-eqb j j refl)))
      ∙ ap (λ xs. cons_option (slice_index_or old j None) xs) (same_in old new ks (further old new j ks same))

  pub same_present : (old new : List (Option T)) (ks : List ℕ) → Agree old new ks → ArePresent old ks → ArePresent new ks
  unfolding Agree
  same_present old new [] same all = tt
  same_present old new (j ∷ ks) same all =
      (ap is_some (same j (or_left _ _ (eq-eqb j j refl))) ∙ all.0, same_present old new ks (further old new j ks same) all.1)

  -- a change at another key
  pub aside : (slots : List (Option T)) (k : ℕ) (o : Option T) (ks : List ℕ) → has k ks ≡ false → Agree slots (slice_set slots k o) ks
  unfolding Agree
  aside slots k o ks none = λ j here. get_or-set_other slots k j o None (λ same. true≢false (sym here ∙ ap (λ m. has m ks) same ∙ none))

  -- ---- a write
  pub written : (slots : List (Option T)) (ks : List ℕ) (i k : ℕ) (x : T) → ArePresent slots ks → AreApart ks → i < length ks → k ≡ slice_index_or ks i k
      → in_order (slice_set slots k (Some x)) ks ≡ slice_set (in_order slots ks) i x
  written slots [] i k x all apart lt at = absurd (omega arith)
  written slots (j ∷ ks) zero k x all apart lt at =
      let same = same_in slots (slice_set slots k (Some x)) ks (aside slots k (Some x) ks (ap (λ m. has m ks) at ∙ apart.0)) in
      let new = get_or-set_same slots j (Some x) None (within slots j all.0) in
      grind (arith, nat_tests, same, new, (some_of (slice_index_or slots j None) all.0).1)
  written slots (j ∷ ks) (suc i) k x all apart lt at =
      let is = (some_of (slice_index_or slots j None) all.0).1 in
      let other = get_or-set_other slots k j (Some x) None (later ks i j k apart.0 (omega arith) at) in
      grind (arith, nat_tests, is, other, written slots ks i k x all.1 apart.1 (omega arith) at)

  still_present : (slots : List (Option T)) (ks : List ℕ) (k : ℕ) (x : T) → ArePresent slots ks → ArePresent (slice_set slots k (Some x)) ks
  still_present slots [] k x all = tt
  still_present slots (j ∷ ks) k x all =
      let same = get_or-set_same slots j (Some x) None (within slots j all.0) in
      let other = get_or-set_other slots k j (Some x) None in
      grind (arith, nat_tests, same, other, still_present slots ks k x all.1)

  count_same : (slots : List (Option T)) (k : ℕ) (x : T) → is_some (slice_index_or slots k None) ≡ true → count_by is_some (slice_set slots k (Some x)) ≡ count_by is_some slots
  count_same [] k x is = refl
  count_same (None ∷ slots) zero x is = absurd (true≢false (sym is))
  count_same (Some y ∷ slots) zero x is = refl
  count_same (o ∷ slots) (suc k) x is =
      omega (arith, count_same slots k x is, sum_by-cons (λ o. cond (is_some o) 1 0) o slots, sum_by-cons (λ o. cond (is_some o) 1 0) o (slice_set slots k (Some x)))

  pub keys_written : (s : Slab T) (ks : List ℕ) (i k : ℕ) (x : T) → AreKeys s ks → i < length ks → k ≡ slice_index_or ks i k → AreKeys (with_value s k x) ks
  keys_written s ks i k x are lt at =
      let many = count_same s.slots k x (present_at s.slots ks i k are.present lt at) in
      grind (arith, nat_tests, many, still_present s.slots ks k x are.present)

  -- ---- one more
  pub fresh : (slots : List (Option T)) (ks : List ℕ) (k : ℕ) → ArePresent slots ks → slice_index_or slots k None ≡ None → has k ks ≡ false
  fresh slots [] k all gone = refl
  fresh slots (j ∷ ks) k all gone = grind (arith, nat_tests, fresh slots ks k all.1 gone)

  behind : (slots : List (Option T)) (ks : List ℕ) (k : ℕ) (x : T) → slice_index_or slots k None ≡ Some x → in_order slots (ks ++ k ∷ []) ≡ in_order slots ks ++ x ∷ []
  behind slots [] k x is = ap (λ o. cons_option o []) is
  behind slots (j ∷ ks) k x is =
      ap (λ xs. cons_option (slice_index_or slots j None) xs) (behind slots ks k x is) ∙ before_more (slice_index_or slots j None) (in_order slots ks) (x ∷ [])

  present_more : (slots : List (Option T)) (ks : List ℕ) (k : ℕ) → is_some (slice_index_or slots k None) ≡ true → ArePresent slots ks → ArePresent slots (ks ++ k ∷ [])
  present_more slots [] k is all = (is, tt)
  present_more slots (j ∷ ks) k is all = (all.0, present_more slots ks k is all.1)

  agree_new : (old new : Slab T) (ks : List ℕ) (k : ℕ) (o : Option T) → has k ks ≡ false → Updates old new k o → Agree old.slots new.slots ks
  unfolding Agree
  agree_new old new ks k o none updates = λ j here. updates.others j (λ same. true≢false (sym here ∙ ap (λ m. has m ks) same ∙ none))

  pub one_more : (old new : Slab T) (ks : List ℕ) (k : ℕ) (x : T) → AreKeys old ks → slice_index_or old.slots k None ≡ None → Updates old new k (Some x)
      → in_order new.slots (ks ++ k ∷ []) ≡ in_order old.slots ks ++ x ∷ []
  one_more old new ks k x are gone updates =
      behind new.slots ks k x updates.changed
      ∙ ap (λ xs. xs ++ x ∷ []) (same_in old.slots new.slots ks (agree_new old new ks k (Some x) (fresh old.slots ks k are.present gone) updates))

  pub keys_more : (old new : Slab T) (ks : List ℕ) (k : ℕ) (x : T) → AreKeys old ks → slice_index_or old.slots k None ≡ None → Updates old new k (Some x)
      → slab_len new ≡ slab_len old + 1 → AreKeys new (ks ++ k ∷ [])
  keys_more old new ks k x are gone updates len =
      let none = fresh old.slots ks k are.present gone in
      record {
        present = present_more new.slots ks k (ap is_some updates.changed) (same_present old.slots new.slots ks (agree_new old new ks k (Some x) none updates) are.present);
        apart = apart_more ks k none are.apart;
        all = omega (arith, len, are.all, length_more ks k);
      }

  -- ---- one less
  pub removed : (slots : List (Option T)) (ks : List ℕ) (i k : ℕ) → ArePresent slots ks → AreApart ks → i < length ks → k ≡ slice_index_or ks i k
      → in_order (slice_set slots k None) (remove ks i) ≡ remove (in_order slots ks) i
  removed slots [] i k all apart lt at = absurd (omega arith)
  removed slots (j ∷ ks) zero k all apart lt at =
      same_in slots (slice_set slots k None) ks (aside slots k None ks (ap (λ m. has m ks) at ∙ apart.0))
      ∙ sym (ap (λ o. remove (cons_option o (in_order slots ks)) 0) (some_of (slice_index_or slots j None) all.0).1)
  removed slots (j ∷ ks) (suc i) k all apart lt at =
      let is = (some_of (slice_index_or slots j None) all.0).1 in
      let other = get_or-set_other slots k j None None (later ks i j k apart.0 (omega arith) at) in
      grind (arith, nat_tests, is, other, removed slots ks i k all.1 apart.1 (omega arith) at)

  present_left : (slots : List (Option T)) (ks : List ℕ) (i k : ℕ) → ArePresent slots ks → AreApart ks → i < length ks → k ≡ slice_index_or ks i k
      → ArePresent (slice_set slots k None) (remove ks i)
  present_left slots [] i k all apart lt at = absurd (omega arith)
  present_left slots (j ∷ ks) zero k all apart lt at = same_present slots (slice_set slots k None) ks (aside slots k None ks (ap (λ m. has m ks) at ∙ apart.0)) all.1
  present_left slots (j ∷ ks) (suc i) k all apart lt at = (
    ap is_some (get_or-set_other slots k j None None (later ks i j k apart.0 (omega arith) at)) ∙ all.0,
    present_left slots ks i k all.1 apart.1 (omega arith) at,
  )

  pub keys_left : (old new : Slab T) (ks : List ℕ) (i k : ℕ) → AreKeys old ks → i < length ks → k ≡ slice_index_or ks i k → new.slots ≡ slice_set old.slots k None
      → slab_len new + 1 ≡ slab_len old → length (remove ks i) + 1 ≡ length ks → AreKeys new (remove ks i)
  keys_left old new ks i k are lt at slots len fewer =
      let left = present_left old.slots ks i k are.present are.apart lt at in
      grind (arith, nat_tests, left, apart_left ks i lt are.apart)

  -- ---- what is seen of it, as it is kept
  pub near : (slots : List (Option T)) (ks : List ℕ) (seen : List T) (i : ℕ) → in_order slots ks ≡ seen → ArePresent slots ks → i < length seen → i < length ks
  near slots ks seen i is all lt = let many = as_many slots ks all in let same = ap length is in omega (arith, many, same, lt)

  pub seen_at : (slots : List (Option T)) (ks : List ℕ) (seen : List T) (i k : ℕ) (x : T) → in_order slots ks ≡ seen → ArePresent slots ks → i < length seen → k ≡ slice_index_or ks i k → slice_index_or slots k None ≡ Some x
      → x ≡ slice_index_or seen i x
  seen_at slots ks seen i k x is all lt at has_it =
      sym (value_at slots ks i k x x all (near slots ks seen i is all lt) at has_it) ∙ ap (λ xs. slice_index_or xs i x) is
