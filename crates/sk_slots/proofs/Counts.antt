-- How many keys have a value, where one key changes.
use Rattle.sk_slots.proofs.Names.{◌≡◌, ℕ, suc, ◌+◌, ◌-◌, ◌<◌, length, Bool, true, false, not, cond, ◌||◌, List, [], ◌∷◌, Option}
use Rattle.sk_slots.proofs.Names.{Some, None, is_some, refl, sym, ◌∙◌, ap, subst, arith, true≢false, Ordering, IsTotalOrder}
use Rattle.sk_slots.proofs.Names.{IsAntisymmetric, FinMap, get, insert, get-insert, eq_by_cmp, eq_by_cmp_equiv, is_in, SlotView, found, look_at, slot_in}
use Rattle.sk_slots.proofs.Maps.{same_by}
use Rattle.sk_slots.proofs.Tables.{among_found, Ties}
use Rattle.sk_map.specs.Seen.{seen}
use Rattle.sk_slots.specs.Counted.{HasPresent}
use Rattle.std.specs.List.{filter, list_any, AllByRecursion, IsDistinct}
use Rattle.std.specs.Map.{keys_of}
use Rattle.std.proofs.lemmas.Map.Made.{length-from_same_keys, length-le_from_is_member}
use Rattle.std.proofs.lemmas.Map.Keys.{IsDistinct-cons, IsDistinct-head, IsDistinct-tail}
use Rattle.std.proofs.lemmas.Map.Entries.{length-keys_of}
use Rattle.std.proofs.lemmas.Bool.Decides.{nat_tests}

-- a count, where what is counted was there or not, and is now or not
abbrev pub recounted : Bool → Bool → ℕ → ℕ
recounted was is n = cond was (cond is n (n - 1)) (cond is (n + 1) n)

-- none of these is equal to a key that is not among them
apart : {K : Type 0} (e : K → Bool) (ks : List K) → list_any e ks ≡ false → AllByRecursion (λ y. e y ≡ false) ks
apart e [] none = tt
apart e (x ∷ xs) none = by (e x) refl none (apart e xs)
  where
    by : (b : Bool) → e x ≡ b → (b || list_any e xs) ≡ false → (list_any e xs ≡ false → AllByRecursion (λ y. e y ≡ false) xs)
        → (e x ≡ false) × AllByRecursion (λ y. e y ≡ false) xs
    by true at h rest = absurd (true≢false h)
    by false at h rest = (at, rest h)

all_left : {K : Type 0} (e p : K → Bool) (ks : List K) → AllByRecursion (λ y. e y ≡ false) ks → AllByRecursion (λ y. e y ≡ false) (filter p ks)
all_left e p [] all = tt
all_left e p (x ∷ xs) all = by (p x) (all_left e p xs all.1)
  where
    by : (b : Bool) → AllByRecursion (λ y. e y ≡ false) (filter p xs) → AllByRecursion (λ y. e y ≡ false) (cond b (x ∷ filter p xs) (filter p xs))
    by true rest = (all.0, rest)
    by false rest = rest

distinct_left : {K : Type 0} (e : K → K → Bool) (p : K → Bool) (ks : List K) → IsDistinct e ks → IsDistinct e (filter p ks)
distinct_left e p [] once = once
distinct_left e p (x ∷ xs) once = by (p x) (distinct_left e p xs (IsDistinct-tail e x xs once))
  where
    by : (b : Bool) → IsDistinct e (filter p xs) → IsDistinct e (cond b (x ∷ filter p xs) (filter p xs))
    by true rest = IsDistinct-cons e x (filter p xs) (all_left (e x) p xs (IsDistinct-head e x xs once)) rest
    by false rest = rest

none_once : {K : Type 0} (e : K → K → Bool) → IsDistinct e []
unfolding IsDistinct
none_once e = tt

-- where no key has a value
pub none_present : {K V : Type 0} (R : K → K → Ordering) (look : K → Option V) → ((k : K) → look k ≡ None) → HasPresent R look 0
none_present R look none = record { keys = []; once = none_once (eq_by_cmp R); all = λ k. sym (ap is_some (none k)); as_many = refl }

module _ {K : Type 0} {R : K → K → Ordering} (total : IsTotalOrder R) where
  -- two counts of the same
  pub same_count : {V : Type 0} (look : K → Option V) (m n : ℕ) → HasPresent R look m → HasPresent R look n → m ≡ n
  same_count look m n a b =
      sym a.as_many ∙ length-from_same_keys (eq_by_cmp_equiv total) a.keys b.keys a.once b.once (λ q. a.all q ∙ sym (b.all q)) ∙ b.as_many

  pub still_present : {V : Type 0} (look new : K → Option V) (n : ℕ) → ((k : K) → is_some (new k) ≡ is_some (look k)) → HasPresent R look n → HasPresent R new n
  still_present look new n same a = record { keys = a.keys; once = a.once; all = λ k. a.all k ∙ sym (same k); as_many = a.as_many }

  -- where there is a key there is a count
  pub some_present : {V : Type 0} (look : K → Option V) (n : ℕ) (k : K) → is_some (look k) ≡ true → HasPresent R look n → 0 < n
  some_present look n k there a = subst (λ m. 0 < m) a.as_many (by a.keys (a.all k ∙ there))
    where
      by : (ks : List K) → is_in R ks k ≡ true → 0 < length ks
      by [] h = absurd (true≢false (sym h))
      by (x ∷ xs) h = omega arith

  module _ (exact : IsAntisymmetric R) where
    -- without one key
    among_left : (k : K) (ks : List K) (q : K) → is_in R (filter (λ x. not (eq_by_cmp R x k)) ks) q ≡ cond (eq_by_cmp R q k) false (is_in R ks q)
    among_left k [] q = grind (arith, nat_tests)
    among_left k (x ∷ xs) q = by (eq_by_cmp R x k) refl (eq_by_cmp R q k) refl (among_left k xs q)
      where
        by : (b : Bool) → eq_by_cmp R x k ≡ b → (d : Bool) → eq_by_cmp R q k ≡ d
            → is_in R (filter (λ y. not (eq_by_cmp R y k)) xs) q ≡ cond d false (is_in R xs q)
            → is_in R (cond (not b) (x ∷ filter (λ y. not (eq_by_cmp R y k)) xs) (filter (λ y. not (eq_by_cmp R y k)) xs)) q ≡ cond d false (eq_by_cmp R q x || is_in R xs q)
        by true at true on h = h
        by true at false on h =
            let other : eq_by_cmp R q x ≡ false = ap (eq_by_cmp R q) (same_by exact x k at) ∙ on in
            h ∙ ap (λ c. c || is_in R xs q) (sym other)
        by false at true on h =
            let other : eq_by_cmp R q x ≡ false = ap (λ y. eq_by_cmp R y x) (same_by exact q k on) ∙ (eq_by_cmp_equiv total).symm k x ∙ at in
            ap (λ c. c || is_in R (filter (λ y. not (eq_by_cmp R y k)) xs) q) other ∙ h
        by false at false on h = ap (λ c. eq_by_cmp R q x || c) h

    module _ {V : Type 0} (look new : K → Option V) (k : K) (was is : Bool) (n : ℕ) where
      -- one key changes
      pub one_recounted : is_some (look k) ≡ was → is_some (new k) ≡ is → ((q : K) → eq_by_cmp R q k ≡ false → is_some (new q) ≡ is_some (look q))
          → HasPresent R look n → HasPresent R new (recounted was is n)
      one_recounted before after others a = by was is before after
        where
          here : (q : K) (b : Bool) → eq_by_cmp R q k ≡ b → (c : Bool) → is_some (new k) ≡ c → is_some (new q) ≡ cond b c (is_some (look q))
          here q true at c now = ap (λ x. is_some (new x)) (same_by exact q k at) ∙ now
          here q false at c now = others q at

          then : (b c : Bool) → is_some (look k) ≡ b → is_some (new k) ≡ c → b ≡ c → (q : K) → is_some (new q) ≡ is_some (look q)
          then b c was now same q = grind (arith, nat_tests, others q, same_by exact q k)

          less : List K
          less = filter (λ x. not (eq_by_cmp R x k)) a.keys

          by : (b c : Bool) → is_some (look k) ≡ b → is_some (new k) ≡ c → HasPresent R new (recounted b c n)
          by true true was now = still_present look new n (then true true was now refl) a
          by false false was now = still_present look new n (then false false was now refl) a
          by false true was now = record {
            keys = k ∷ a.keys;
            once = IsDistinct-cons (eq_by_cmp R) k a.keys (apart (eq_by_cmp R k) a.keys (a.all k ∙ was)) a.once;
            all = λ q. elim (eq_by_cmp R q k) as (λ b. eq_by_cmp R q k ≡ b → (b || is_in R a.keys q) ≡ is_some (new q)) [
              | true ↦ λ e. sym (here q true e true now)
              | false ↦ λ e. a.all q ∙ sym (here q false e true now)
            ] refl;
            as_many = ap suc a.as_many ∙ omega arith;
          }
          by true false was now =
              let gone : is_in R less k ≡ false = among_left k a.keys k ∙ ap (λ b. cond b false (is_in R a.keys k)) ((eq_by_cmp_equiv total).refl k) in
              let once = distinct_left (eq_by_cmp R) (λ x. not (eq_by_cmp R x k)) a.keys a.once in
              let all : (q : K) → is_in R (k ∷ less) q ≡ is_in R a.keys q = λ q. ap (λ b. eq_by_cmp R q k || b) (among_left k a.keys q)
              ∙ elim (eq_by_cmp R q k) as (λ b. eq_by_cmp R q k ≡ b → (b || cond b false (is_in R a.keys q)) ≡ is_in R a.keys q) [
                | true ↦ λ e. sym (ap (is_in R a.keys) (same_by exact q k e) ∙ a.all k ∙ was)
                | false ↦ λ e. refl
              ] refl in
              let long : suc (length less) ≡ length a.keys = length-from_same_keys (eq_by_cmp_equiv total) (k ∷ less) a.keys
              (IsDistinct-cons (eq_by_cmp R) k less (apart (eq_by_cmp R k) less gone) once) a.once all in
              record {
                keys = less;
                once = once;
                all = λ q. among_left k a.keys q
                    ∙ elim (eq_by_cmp R q k) as (λ b. eq_by_cmp R q k ≡ b → cond b false (is_in R a.keys q) ≡ is_some (new q)) [
                      | true ↦ λ e. sym (here q true e false now)
                      | false ↦ λ e. a.all q ∙ sym (here q false e false now)
                    ] refl;
                as_many = let many = a.as_many in omega arith;
              }

has_slot : {V : Type 0} (o : Option (SlotView V)) → is_some (slot_in o).value ≡ true → is_some o ≡ true
has_slot None there = there
has_slot (Some s) there = refl

-- no more keys have a value than have a slot
pub present_within : {K V : Type 0} {E : K → K → Bool} {C R : K → K → Ordering} → Ties E C → C ≡ R → IsTotalOrder R
    → (es : List (K × SlotView V)) (n : ℕ) → HasPresent R (look_at R es) (n + 1) → n < length es
present_within {R = R} ties same total es n a =
    let long = length-le_from_is_member (eq_by_cmp_equiv total) a.keys (keys_of es) a.once
    (λ q m. among_found ties same total es q ∙ has_slot (found R es q) (sym (a.all q) ∙ m)) in
    omega (arith, long, length-keys_of es, a.as_many)

module _ {K V : Type 0} {R : K → K → Ordering} (total : IsTotalOrder R) (exact : IsAntisymmetric R) where
  -- one slot is changed
  pub slot_recounted : (es fs : List (K × SlotView V)) (k : K) (s w : SlotView V) (n : ℕ) → get (seen R es) k ≡ Some s → seen R fs ≡ insert (seen R es) k w
      → (had has : Bool) → had ≡ is_some s.value → has ≡ is_some w.value → HasPresent R (look_at R es) n → HasPresent R (look_at R fs) (recounted had has n)
  slot_recounted es fs k s w n here all had has before after a =
      one_recounted total exact (look_at R es) (look_at R fs) k had has n
      (ap (λ o. is_some (slot_in o).value) here ∙ sym before)
      (ap (λ (m : FinMap R (SlotView V)). is_some (slot_in (get m k)).value) all
      ∙ ap (λ o. is_some (slot_in o).value) (get-insert total (seen R es) k w k)
      ∙ ap (λ b. is_some (slot_in (cond b (Some w) (get (seen R es) k))).value) ((eq_by_cmp_equiv total).refl k) ∙ sym after)
      (λ q off. ap (λ (m : FinMap R (SlotView V)). is_some (slot_in (get m q)).value) all
      ∙ ap (λ o. is_some (slot_in o).value) (get-insert total (seen R es) k w q)
      ∙ ap (λ b. is_some (slot_in (cond b (Some w) (get (seen R es) q))).value) off)
      a

  pub slot_counts : (es : List (K × SlotView V)) (k : K) (s : SlotView V) (n : ℕ) → get (seen R es) k ≡ Some s → is_some s.value ≡ true → HasPresent R (look_at R es) n → 0 < n
  slot_counts es k s n here there a = some_present total (look_at R es) n k (ap (λ o. is_some (slot_in o).value) here ∙ there) a

  pub as_before : (es fs : List (K × SlotView V)) (n : ℕ) → ((q : K) → look_at R fs q ≡ look_at R es q) → HasPresent R (look_at R es) n → HasPresent R (look_at R fs) n
  as_before es fs n same a = still_present total (look_at R es) (look_at R fs) n (λ q. ap is_some (same q)) a
