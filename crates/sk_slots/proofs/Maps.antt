-- One slot of all is changed.
use Rattle.sk_slots.proofs.Names.{arith, same_Some, ◌≡◌, ℕ, List, [], ◌∷◌, Bool, true, false, cond, ◌||◌, not, Option}
use Rattle.sk_slots.proofs.Names.{Some, None, ◌+◌, ◌<◌, length, drop, refl, sym, ◌∙◌, ap, subst, get_or, is_none, is_some}
use Rattle.sk_slots.proofs.Names.{Result, Ok, Err, OnOk, eq_by_cmp, Ordering, IsTotalOrder, eq_by_cmp_equiv}
use Rattle.sk_slots.proofs.Names.{Equal-is, FinMap, IsAntisymmetric, get, insert, remove, get-insert, get-remove}
use Rattle.sk_slots.proofs.Names.{true≢false, is_in, Note, unwound, cut, drop-cons, suc-eq-add-one, and_both}
use Rattle.sk_slots.proofs.Names.{SlotView, are_of, is_bare, is_empty, is_settled, IsPrepared, slot_in, HasPrepared, last_tags}
use Rattle.std.proofs.lemmas.Bool.Decides.{nat_tests}

empty_is : {A : Type 0} (xs : List A) → is_empty xs ≡ true → xs ≡ []
empty_is [] is = refl
empty_is (x ∷ xs) is = absurd (true≢false (sym is))

none_is : {A : Type 0} (o : Option A) → is_none o ≡ true → o ≡ None
none_is None is = refl
none_is (Some x) is = absurd (true≢false (sym is))

pub same_by : {K : Type 0} {R : K → K → Ordering} → IsAntisymmetric R → (q k : K) → eq_by_cmp R q k ≡ true → q ≡ k
same_by {R = R} exact q k is = exact q k ((Equal-is (R q k)).0 is)

module _ {K V : Type 0} {R : K → K → Ordering} (total : IsTotalOrder R) (exact : IsAntisymmetric R) where
  -- what is told of a slot, where one is changed
  pub one_changed : {A : Type 0} (f h : SlotView V → A) (m n : FinMap R (SlotView V)) (k : K) (s w : SlotView V) → get m k ≡ Some s → n ≡ insert m k w → f w ≡ h s
      → (q : K) → f (slot_in (get n q)) ≡ cond (eq_by_cmp R q k) (h (slot_in (get m q))) (f (slot_in (get m q)))
  one_changed f h m n k s w here all is q =
      ap (λ (x : FinMap R (SlotView V)). f (slot_in (get x q))) all ∙ ap (λ o. f (slot_in o)) (get-insert total m k w q)
      ∙ elim (eq_by_cmp R q k) as (λ b. eq_by_cmp R q k ≡ b → f (slot_in (cond b (Some w) (get m q))) ≡ cond b (h (slot_in (get m q))) (f (slot_in (get m q)))) [
        | true ↦ λ e. is ∙ ap (λ o. h (slot_in o)) (sym here ∙ ap (get m) (sym (same_by exact q k e)))
        | false ↦ λ _. refl
      ] refl

  pub none_changed : {A : Type 0} (f h : SlotView V → A) (m n : FinMap R (SlotView V)) (k : K) → get m k ≡ None → n ≡ m → f (slot_in None) ≡ h (slot_in None)
      → (q : K) → f (slot_in (get n q)) ≡ cond (eq_by_cmp R q k) (h (slot_in (get m q))) (f (slot_in (get m q)))
  none_changed f h m n k none all is q = grind (arith, nat_tests, same_by exact q k)

  -- a slot that tells the same
  pub one_same : {A : Type 0} (f : SlotView V → A) (m n : FinMap R (SlotView V)) (k : K) (s w : SlotView V) → get m k ≡ Some s → n ≡ insert m k w → f w ≡ f s
      → (q : K) → f (slot_in (get n q)) ≡ f (slot_in (get m q))
  one_same f m n k s w here all is q = grind (arith, nat_tests, one_changed f f m n k s w here all is q)

  -- a slot where there was none
  pub one_born : {A : Type 0} (f : SlotView V → A) (m n : FinMap R (SlotView V)) (k : K) (w : SlotView V) → get m k ≡ None → n ≡ insert m k w → f w ≡ f (slot_in None)
      → (q : K) → f (slot_in (get n q)) ≡ f (slot_in (get m q))
  one_born f m n k w none all is q =
      ap (λ (x : FinMap R (SlotView V)). f (slot_in (get x q))) all ∙ ap (λ o. f (slot_in o)) (get-insert total m k w q)
      ∙ elim (eq_by_cmp R q k) as (λ b. eq_by_cmp R q k ≡ b → f (slot_in (cond b (Some w) (get m q))) ≡ f (slot_in (get m q))) [
        | true ↦ λ e. is ∙ ap (λ o. f (slot_in o)) (sym (ap (get m) (same_by exact q k e) ∙ none))
        | false ↦ λ _. refl
      ] refl

  -- a slot that was changed and then let go of
  pub same_gone : {A : Type 0} (f : SlotView V → A) (m n : FinMap R (SlotView V)) (k : K) (s w : SlotView V) → get m k ≡ Some s → n ≡ remove (insert m k w) k → f (slot_in None) ≡ f s
      → (q : K) → f (slot_in (get n q)) ≡ f (slot_in (get m q))
  same_gone f m n k s w here all is q =
      ap (λ (x : FinMap R (SlotView V)). f (slot_in (get x q))) all ∙ ap (λ o. f (slot_in o)) (get-remove total (insert m k w) k q ∙ ap (cond (eq_by_cmp R q k) None) (get-insert total m k w q))
      ∙ elim (eq_by_cmp R q k) as (λ b. eq_by_cmp R q k ≡ b → f (slot_in (cond b None (cond b (Some w) (get m q)))) ≡ f (slot_in (get m q))) [
        | true ↦ λ e. is ∙ ap (λ o. f (slot_in o)) (sym (ap (get m) (same_by exact q k e) ∙ here))
        | false ↦ λ _. refl
      ] refl

  -- what is ready stays so where the one slot that is changed does
  pub still_ready : (tags : List ℕ) (m n : FinMap R (SlotView V)) (k : K) (w : SlotView V) → n ≡ insert m k w → (HasPrepared tags (get m k) → IsPrepared tags w)
      → (q : K) → HasPrepared tags (get m q) → HasPrepared tags (get n q)
  still_ready tags m n k w all is q ready =
      subst (λ (x : FinMap R (SlotView V)). HasPrepared tags (get x q)) (sym all)
      (subst (HasPrepared tags) (sym (get-insert total m k w q))
      (elim (eq_by_cmp R q k) as (λ b. eq_by_cmp R q k ≡ b → HasPrepared tags (cond b (Some w) (get m q))) [
        | true ↦ λ e. is (subst (λ x. HasPrepared tags (get m x)) (same_by exact q k e) ready)
        | false ↦ λ _. ready
      ] refl))

  pub ready_at : (tags : List ℕ) (m n : FinMap R (SlotView V)) (k : K) (w : SlotView V) → n ≡ insert m k w → IsPrepared tags w → HasPrepared tags (get n k)
  ready_at tags m n k w all is =
      subst (λ (x : FinMap R (SlotView V)). HasPrepared tags (get x k)) (sym all)
      (subst (HasPrepared tags) (sym (get-insert total m k w k)) (subst (λ b. HasPrepared tags (cond b (Some w) (get m k))) (sym ((eq_by_cmp_equiv total).refl k)) is))

  -- a key that has a slot keeps one
  pub still_found : (m n : FinMap R (SlotView V)) (k : K) (w : SlotView V) → n ≡ insert m k w → (q : K) → is_some (get m q) ≡ true → is_some (get n q) ≡ true
  still_found m n k w all q has =
      ap (λ (x : FinMap R (SlotView V)). is_some (get x q)) all ∙ ap is_some (get-insert total m k w q)
      ∙ elim (eq_by_cmp R q k) as (λ b. is_some (cond b (Some w) (get m q)) ≡ true) [ true ↦ refl | false ↦ has ]

-- after a slot let go of its room
pub settled_of : {V : Type 0} (s : SlotView V) → is_bare s ≡ false → is_settled (record s { ready = None }) ≡ true
settled_of s some = ap not some

-- slots that are settled, but for those of some keys
abbrev pub Settled : {K V : Type 0} {R : K → K → Ordering} → List K → FinMap R (SlotView V) → Type 0
Settled {K} {V} {R} ks m = (q : K) (s : SlotView V) → get m q ≡ Some s → is_in R ks q ≡ false → is_settled s ≡ true

module _ {K V : Type 0} {R : K → K → Ordering} (total : IsTotalOrder R) (exact : IsAntisymmetric R) where
  -- one of those keys has another slot
  pub settled_kept : (ks : List K) (m n : FinMap R (SlotView V)) (k : K) (w : SlotView V) → n ≡ insert m k w → is_in R ks k ≡ true → Settled ks m → Settled ks n
  settled_kept ks m n k w all among settled q s here out =
      elim (eq_by_cmp R q k) as (λ b. eq_by_cmp R q k ≡ b → cond b (Some w) (get m q) ≡ Some s → is_settled s ≡ true) [
        | true ↦ λ e _. absurd (true≢false (sym among ∙ ap (is_in R ks) (sym (same_by exact q k e)) ∙ out))
        | false ↦ λ _ there. settled q s there out
      ] refl (sym (get-insert total m k w q) ∙ ap (λ (x : FinMap R (SlotView V)). get x q) (sym all) ∙ here)

  -- one key more is settled
  pub settled_set : (ks : List K) (m n : FinMap R (SlotView V)) (k : K) (w : SlotView V) → n ≡ insert m k w → is_settled w ≡ true → Settled (k ∷ ks) m → Settled ks n
  settled_set ks m n k w all is settled q s here out =
      elim (eq_by_cmp R q k) as (λ b. eq_by_cmp R q k ≡ b → cond b (Some w) (get m q) ≡ Some s → is_settled s ≡ true) [
        | true ↦ λ _ there. ap is_settled (sym (same_Some w s there)) ∙ is
        | false ↦ λ apart there. settled q s there (ap (λ b. b || is_in R ks q) apart ∙ out)
      ] refl (sym (get-insert total m k w q) ∙ ap (λ (x : FinMap R (SlotView V)). get x q) (sym all) ∙ here)

  pub settled_gone : (ks : List K) (m n : FinMap R (SlotView V)) (k : K) (w : SlotView V) → n ≡ remove (insert m k w) k → Settled (k ∷ ks) m → Settled ks n
  settled_gone ks m n k w all settled q s here out =
      elim (eq_by_cmp R q k) as (λ b. eq_by_cmp R q k ≡ b → cond b None (cond b (Some w) (get m q)) ≡ Some s → is_settled s ≡ true) [
        | true ↦ λ _ there. cc
        | false ↦ λ apart there. settled q s there (ap (λ b. b || is_in R ks q) apart ∙ out)
      ] refl (ap (cond (eq_by_cmp R q k) None) (sym (get-insert total m k w q)) ∙ sym (get-remove total (insert m k w) k q) ∙ ap (λ (x : FinMap R (SlotView V)). get x q) (sym all) ∙ here)

  pub settled_none : (ks : List K) (m n : FinMap R (SlotView V)) (k : K) → n ≡ m → get m k ≡ None → Settled (k ∷ ks) m → Settled ks n
  settled_none ks m n k all none settled q s here out = grind (arith, nat_tests, same_by exact q k)

-- of a slot of which there is nothing
module _ {V : Type 0} where
  pub bare_value : (s : SlotView V) → is_bare s ≡ true → None ≡ s.value
  bare_value s bare = sym (none_is s.value (and_both _ _ bare).0)

  pub bare_log : (s : SlotView V) → is_bare s ≡ true → [] ≡ s.log
  bare_log s bare = sym (empty_is s.log (and_both _ _ bare).1)

-- ---- what is done twice
pub cut_twice : {V : Type 0} (g : ℕ) (log : List (Note V)) → cut g (cut g log) ≡ cut g log
cut_twice g [] = refl
cut_twice g (n ∷ log) = grind (arith, nat_tests, cut_twice g log)

pub unwound_twice : {V : Type 0} (g : ℕ) (log : List (Note V)) (now : Option V) → unwound g (cut g log) now ≡ now
unwound_twice g [] now = refl
unwound_twice g (n ∷ log) now = grind (arith, nat_tests, unwound_twice g log now)

-- a pass over keys: those that are left give the same from here
pub pass_more : {A : Type 0} (f : A → A) → ((x : A) → f (f x) ≡ f x) → (e rest : Bool) (x y : A) → y ≡ cond e (f x) x → cond rest (f y) y ≡ cond (e || rest) (f x) x
pass_more f idem true true x y is = ap f is ∙ idem x
pass_more f idem true false x y is = is
pass_more f idem false true x y is = ap f is
pass_more f idem false false x y is = is

pub when_ok : {A E P Q : Type 0} (r : Result A E) → OnOk r P → (P → Q) → OnOk r Q
when_ok (Ok x) p f = f p
when_ok (Err why) p f = tt

pub both_more : {V : Type 0} (g : ℕ) (e rest : Bool) (v w : Option V) (x y : List (Note V)) → w ≡ cond e (unwound g x v) v → y ≡ cond e (cut g x) x
    → (cond rest (unwound g y w) w ≡ cond (e || rest) (unwound g x v) v) × (cond rest (cut g y) y ≡ cond (e || rest) (cut g x) x)
both_more g true true v w x y is log = ((λ i. unwound g (log i) (is i)) ∙ unwound_twice g x (unwound g x v), ap (cut g) log ∙ cut_twice g x)
both_more g true false v w x y is log = (is, log)
both_more g false true v w x y is log = ((λ i. unwound g (log i) (is i)), ap (cut g) log)
both_more g false false v w x y is log = (is, log)

pub next_of : {K : Type 0} (es : List K) (i : ℕ) (e : K) → i < length es → e ≡ get_or es i e → drop i es ≡ e ∷ drop (i + 1) es
next_of es i e within is = drop-cons es i e within ∙ (λ k. sym is k ∷ drop (suc-eq-add-one i k) es)
