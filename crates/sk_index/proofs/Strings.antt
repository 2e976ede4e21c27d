-- The strings in their places, as they are seen with their numbers.
use Rattle.sk_index.proofs.Names.{same_Some, ◌≡◌, ◌≢◌, ℕ, zero, suc, ◌+◌, ◌<◌, true, false, List, [], ◌∷◌, get_or}
use Rattle.sk_index.proofs.Names.{Option, Some, None, cond, refl, sym, ap, ◌∙◌, subst, zero-add, arith, ◌==◌}
use Rattle.sk_index.proofs.Names.{if◌then◌else◌, Decides, option_map, eq_by_cmp, find, Vec, eqb-true, eqb-false, ne_eqb}
use Rattle.sk_index.proofs.Names.{eq-eqb, bytes_eq-Decides, is_eq-slice_cmp, bytes_cmp, number_of, string_of, Adds}
use Rattle.sk_index.proofs.Names.{Removes, numbered}

pub some_none : {A P : Type 0} (x : A) → Some x ≡ None → P
some_none x is = cc

abbrev items_or : Option (Vec ℕ) → List ℕ
items_or None = []
items_or (Some v) = v.items

items_same : (v w : Vec ℕ) → Some v ≡ Some w → v.items ≡ w.items
items_same v w is = ap items_or is

pub true_false : {P : Type 0} → true ≡ false → P
true_false is = cc

pub same_bytes : (s t : List ℕ) → Decides (eq_by_cmp bytes_cmp s t) (s ≡ t)
same_bytes s t = subst (λ b. Decides b (s ≡ t)) (sym (is_eq-slice_cmp s t)) (bytes_eq-Decides s t)

-- what is in a place
abbrev pub Slots : Type 0
Slots = List (Option (Vec ℕ))

abbrev pub at : Slots → ℕ → Option (Vec ℕ)
at vs i = get_or vs i None

-- no string is twice there
abbrev pub Apart : Slots → Type 0
Apart vs = (i j : ℕ) (v w : Vec ℕ) → at vs i ≡ Some v → at vs j ≡ Some w → v.items ≡ w.items → i ≡ j

pub apart_later : (slot : Option (Vec ℕ)) (vs : Slots) → Apart (slot ∷ vs) → Apart vs
apart_later slot vs apart i j v w vi wj same = let e = apart (suc i) (suc j) v w vi wj same in omega (arith, e)

-- ---- strings by numbers

below : (b : ℕ) (vs : Slots) (m : ℕ) → m < b → string_of (numbered b vs) m ≡ None
below b [] m less = refl
below b (None ∷ vs) m less = below (b + 1) vs m (omega (arith, less))
below b (Some v ∷ vs) m less =
    ap (λ c. if c then Some v.items else string_of (numbered (b + 1) vs) m) (ne_eqb b m (λ e. omega (arith, less, e)))
    ∙ below (b + 1) vs m (omega (arith, less))

string_slot : (b : ℕ) (vs : Slots) (i : ℕ) → string_of (numbered b vs) (b + i) ≡ option_map (λ v. v.items) (at vs i)
string_slot b [] i = refl
string_slot b (None ∷ vs) zero = below (b + 1) vs (b + 0) (omega arith)
string_slot b (None ∷ vs) (suc i) =
    let shift : b + suc i ≡ (b + 1) + i = omega arith in
    ap (string_of (numbered (b + 1) vs)) shift ∙ string_slot (b + 1) vs i
string_slot b (Some v ∷ vs) zero =
    ap (λ c. if c then Some v.items else string_of (numbered (b + 1) vs) (b + 0)) (eq-eqb b (b + 0) (omega arith))
string_slot b (Some v ∷ vs) (suc i) =
    let shift : b + suc i ≡ (b + 1) + i = omega arith in
    ap (λ c. if c then Some v.items else string_of (numbered (b + 1) vs) (b + suc i))
    (ne_eqb b (b + suc i) (λ e. omega (arith, e)))
    ∙ ap (string_of (numbered (b + 1) vs)) shift
    ∙ string_slot (b + 1) vs i

pub string_at : (vs : Slots) (n : ℕ) → string_of (numbered 0 vs) n ≡ option_map (λ v. v.items) (at vs n)
string_at vs n = ap (string_of (numbered 0 vs)) (sym (zero-add n)) ∙ string_slot 0 vs n

-- ---- numbers of strings

slot_found : (b : ℕ) (vs : Slots) → Apart vs → (i : ℕ) (v : Vec ℕ) (q : List ℕ) → at vs i ≡ Some v → q ≡ v.items
    → find bytes_cmp q (numbered b vs) ≡ Some (b + i)
slot_found b [] apart i v q is same = absurd (cc)
slot_found b (None ∷ vs) apart zero v q is same = absurd (cc)
slot_found b (None ∷ vs) apart (suc i) v q is same =
    let shift : (b + 1) + i ≡ b + suc i = omega arith in
    slot_found (b + 1) vs (apart_later None vs apart) i v q is same ∙ ap Some shift
slot_found b (Some w ∷ vs) apart zero v q is same =
    ap (λ c. cond c (Some b) (find bytes_cmp q (numbered (b + 1) vs)))
    ((same_bytes q w.items).1 (same ∙ sym (items_same w v is)))
    ∙ ap Some (omega arith)
slot_found b (Some w ∷ vs) apart (suc i) v q is same =
    elim (eq_by_cmp bytes_cmp q w.items)
    as (λ c. eq_by_cmp bytes_cmp q w.items ≡ c → cond c (Some b) (find bytes_cmp q (numbered (b + 1) vs))
    ≡ Some (b + suc i)) [
      | true ↦ λ e.
          let first : 0 ≡ suc i = apart 0 (suc i) w v refl is (sym ((same_bytes q w.items).0 e) ∙ same) in
          absurd (omega (arith, first))
      | false ↦ λ e.
          let shift : (b + 1) + i ≡ b + suc i = omega arith in
          slot_found (b + 1) vs (apart_later (Some w) vs apart) i v q is same ∙ ap Some shift
    ] refl

pub found_slot : (b : ℕ) (vs : Slots) (q : List ℕ) (n : ℕ) → find bytes_cmp q (numbered b vs) ≡ Some n → (i : ℕ)
    × (v : Vec ℕ) × (n ≡ b + i) × (at vs i ≡ Some v) × (q ≡ v.items)
found_slot b [] q n is = absurd (cc)
found_slot b (None ∷ vs) q n is =
    let later = found_slot (b + 1) vs q n is in
    (suc later.0, later.1, omega (arith, later.2), later.3, later.4)
found_slot b (Some w ∷ vs) q n is =
    elim (eq_by_cmp bytes_cmp q w.items)
    as (λ c. eq_by_cmp bytes_cmp q w.items ≡ c → cond c (Some b) (find bytes_cmp q (numbered (b + 1) vs)) ≡ Some n
    → (i : ℕ) × (v : Vec ℕ) × (n ≡ b + i) × (at (Some w ∷ vs) i ≡ Some v) × (q ≡ v.items)) [
      | true ↦ λ e here. let same : b ≡ n = cc in (0, w, omega (arith, same), refl, (same_bytes q w.items).0 e)
      | false ↦ λ e there.
          let later = found_slot (b + 1) vs q n there in
          (suc later.0, later.1, omega (arith, later.2), later.3, later.4)
    ] refl is

pub number_at : (vs : Slots) → Apart vs → (n : ℕ) (v : Vec ℕ) (q : List ℕ) → at vs n ≡ Some v → q ≡ v.items
    → number_of (numbered 0 vs) q ≡ Some n
number_at vs apart n v q is same = slot_found 0 vs apart n v q is same ∙ ap Some (zero-add n)

pub at_number : (vs : Slots) (q : List ℕ) (n : ℕ) → number_of (numbered 0 vs) q ≡ Some n → (v : Vec ℕ)
    × (at vs n ≡ Some v) × (q ≡ v.items)
at_number vs q n is =
    let slot = found_slot 0 vs q n is in
    let same : slot.0 ≡ n = omega (arith, slot.2) in
    (slot.1, subst (λ k. at vs k ≡ Some slot.1) same slot.3, slot.4)

pub slot_of : (vs : Slots) (n : ℕ) (q : List ℕ) → string_of (numbered 0 vs) n ≡ Some q → (v : Vec ℕ)
    × (at vs n ≡ Some v) × (v.items ≡ q)
slot_of vs n q is = by_slot (at vs n) refl
  where
    by_slot : (slot : Option (Vec ℕ)) → at vs n ≡ slot → (v : Vec ℕ) × (at vs n ≡ Some v) × (v.items ≡ q)
    by_slot None gets = some_none q (sym is ∙ string_at vs n ∙ ap (option_map (λ (v : Vec ℕ). v.items)) gets)
    by_slot (Some v) gets =
        (v, gets, same_Some v.items q (sym (ap (option_map (λ (v : Vec ℕ). v.items)) gets) ∙ sym (string_at vs n) ∙ is))

-- a string that is nowhere has no number
pub unnumbered : (vs : Slots) (q : List ℕ) → ((n : ℕ) → string_of (numbered 0 vs) n ≡ Some q → ⊥) → None
    ≡ number_of (numbered 0 vs) q
unnumbered vs q nowhere = by_number (number_of (numbered 0 vs) q) refl
  where
    by_number : (o : Option ℕ) → number_of (numbered 0 vs) q ≡ o → None ≡ o
    by_number None gets = refl
    by_number (Some n) gets =
        let slot = at_number vs q n gets in
        absurd (nowhere n (string_at vs n ∙ ap (option_map (λ (v : Vec ℕ). v.items)) slot.1 ∙ ap Some (sym slot.2)))

-- a string without a number is nowhere
pub nowhere : {P : Type 0} (vs : Slots) → Apart vs → (q : List ℕ) → number_of (numbered 0 vs) q ≡ None
    → (n : ℕ) (v : Vec ℕ) → at vs n ≡ Some v → q ≡ v.items → P
nowhere vs apart q none n v is same = some_none n (sym (number_at vs apart n v q is same) ∙ none)

-- in a place or elsewhere
pub elsewhere : {P : Type 0} (m k : ℕ) → (m ≡ k → P) → ((m ≢ k) → P) → P
elsewhere {P} m k here there =
    elim (m == k) as (λ c. (m == k) ≡ c → P) [
      | true ↦ λ e. here (eqb-true m k e)
      | false ↦ λ e. there (eqb-false m k e)
    ] refl

-- ---- one place has something else

module _ (old new : Slots) (k : ℕ) (others : (m : ℕ) → m ≢ k → at new m ≡ at old m) where
  kept_string : (s : Option (List ℕ)) → option_map (λ v. v.items) (at new k) ≡ s → (m : ℕ)
      → string_of (numbered 0 new) m ≡ (if k == m then s else string_of (numbered 0 old) m)
  kept_string s is m =
      elim (k == m) as (λ c. (k == m) ≡ c → string_of (numbered 0 new) m
      ≡ (if c then s else string_of (numbered 0 old) m)) [
        | true ↦ λ e. string_at new m ∙ ap (λ n. option_map (λ v. v.items) (at new n)) (sym (eqb-true k m e)) ∙ is
        | false ↦ λ e. string_at new m
            ∙ ap (option_map (λ v. v.items)) (others m (λ same. eqb-false k m e (sym same))) ∙ sym (string_at old m)
      ] refl

  module _ (apart : Apart old) (v : Vec ℕ) (was : at old k ≡ None) (is : at new k ≡ Some v)
      (none : number_of (numbered 0 old) v.items ≡ None) where
    items_at : (w : Vec ℕ) → at new k ≡ Some w → w.items ≡ v.items
    items_at w there = items_same w v (sym there ∙ is)

    pub added_apart : Apart new
    added_apart i j w x wi xj same =
        elsewhere i k
        (λ ik.
        elsewhere j k (λ jk. ik ∙ sym jk)
        (λ nj.
        nowhere old apart v.items none j x (sym (others j nj) ∙ xj)
        (sym (items_at w (ap (at new) (sym ik) ∙ wi)) ∙ same)))
        (λ ni.
        elsewhere j k
        (λ jk.
        nowhere old apart v.items none i w (sym (others i ni) ∙ wi)
        (sym (items_at x (ap (at new) (sym jk) ∙ xj)) ∙ sym same))
        (λ nj. apart i j w x (sym (others i ni) ∙ wi) (sym (others j nj) ∙ xj) same))

    added_number : (q : List ℕ) → number_of (numbered 0 new) q
        ≡ (if eq_by_cmp bytes_cmp q v.items then Some k else number_of (numbered 0 old) q)
    added_number q =
        elim (eq_by_cmp bytes_cmp q v.items)
        as (λ c. eq_by_cmp bytes_cmp q v.items ≡ c → number_of (numbered 0 new) q
        ≡ (if c then Some k else number_of (numbered 0 old) q)) [
          | true ↦ λ e. number_at new added_apart k v q is ((same_bytes q v.items).0 e)
          | false ↦ λ e. other e (number_of (numbered 0 old) q) refl
        ] refl
      where
        other : eq_by_cmp bytes_cmp q v.items ≡ false → (o : Option ℕ) → number_of (numbered 0 old) q ≡ o
            → number_of (numbered 0 new) q ≡ number_of (numbered 0 old) q
        other e (Some n) had =
            let slot = at_number old q n had in
            let there : n ≢ k = λ same. some_none slot.0 (sym slot.1 ∙ ap (at old) same ∙ was) in
            number_at new added_apart n slot.0 q (others n there ∙ slot.1) slot.2 ∙ sym had
        other e None had = unseen (number_of (numbered 0 new) q) refl ∙ sym had
          where
            unseen : (p : Option ℕ) → number_of (numbered 0 new) q ≡ p → p ≡ None
            unseen None gets = refl
            unseen (Some m) gets =
                let slot = at_number new q m gets in
                elsewhere m k
                (λ mk. true_false (sym
                ((same_bytes q v.items).1 (slot.2 ∙ items_at slot.0 (ap (at new) (sym mk) ∙ slot.1))) ∙ e))
                (λ nm. nowhere old apart q had m slot.0 (sym (others m nm) ∙ slot.1) slot.2)

    pub adds : Adds (numbered 0 old) v.items k (numbered 0 new)
    adds = record {
      absent = none;
      free = string_at old k ∙ ap (option_map (λ v. v.items)) was;
      numbers = added_number;
      strings = kept_string (Some v.items) (ap (option_map (λ v. v.items)) is);
    }

  module _ (apart : Apart old) (v : Vec ℕ) (was : at old k ≡ Some v) (is : at new k ≡ None) where
    -- what is somewhere now was there
    before : (m : ℕ) (w : Vec ℕ) → at new m ≡ Some w → (m ≢ k) × (at old m ≡ Some w)
    before m w there =
        let other : m ≢ k = λ same. some_none w (sym there ∙ ap (at new) same ∙ is) in
        (other, sym (others m other) ∙ there)

    pub removed_apart : Apart new
    removed_apart i j w x wi xj same = apart i j w x (before i w wi).1 (before j x xj).1 same

    removed_number : (q : List ℕ) → number_of (numbered 0 new) q
        ≡ (if eq_by_cmp bytes_cmp q v.items then None else number_of (numbered 0 old) q)
    removed_number q =
        elim (eq_by_cmp bytes_cmp q v.items)
        as (λ c. eq_by_cmp bytes_cmp q v.items ≡ c → number_of (numbered 0 new) q
        ≡ (if c then None else number_of (numbered 0 old) q)) [
          | true ↦ λ e. gone ((same_bytes q v.items).0 e) (number_of (numbered 0 new) q) refl
          | false ↦ λ e. other e (number_of (numbered 0 old) q) refl
        ] refl
      where
        gone : q ≡ v.items → (p : Option ℕ) → number_of (numbered 0 new) q ≡ p → p ≡ None
        gone same None gets = refl
        gone same (Some m) gets =
            let slot = at_number new q m gets in
            absurd ((before m slot.0 slot.1).0 (apart m k slot.0 v (before m slot.0 slot.1).1 was (sym slot.2 ∙ same)))

        other : eq_by_cmp bytes_cmp q v.items ≡ false → (o : Option ℕ) → number_of (numbered 0 old) q ≡ o
            → number_of (numbered 0 new) q ≡ number_of (numbered 0 old) q
        other e (Some n) had =
            let slot = at_number old q n had in
            let there : n ≢ k =
            λ same.
            true_false (sym ((same_bytes q v.items).1
            (slot.2 ∙ items_same slot.0 v (sym slot.1 ∙ ap (at old) same ∙ was))) ∙ e) in
            number_at new removed_apart n slot.0 q (others n there ∙ slot.1) slot.2 ∙ sym had
        other e None had = unseen (number_of (numbered 0 new) q) refl ∙ sym had
          where
            unseen : (p : Option ℕ) → number_of (numbered 0 new) q ≡ p → p ≡ None
            unseen None gets = refl
            unseen (Some m) gets =
                let slot = at_number new q m gets in
                nowhere old apart q had m slot.0 (before m slot.0 slot.1).1 slot.2

    pub removes : Removes (numbered 0 old) v.items k (numbered 0 new)
    removes = record {
      had = string_at old k ∙ ap (option_map (λ v. v.items)) was;
      numbers = removed_number;
      strings = kept_string None (ap (option_map (λ v. v.items)) is);
    }
