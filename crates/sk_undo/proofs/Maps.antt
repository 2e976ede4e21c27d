-- Writes to the map of slots, and what takes them back.
use Rattle.sk_undo.proofs.Cites.{◌≡◌, ℕ, List, [], ◌∷◌, Bool, true, false, cond, Option, Some, None, refl, sym, ◌∙◌, ap}
use Rattle.sk_undo.proofs.Cites.{subst, is_some, eq_by_cmp, eq_by_cmp_equiv, Equal-is, get, insert, remove, get-insert}
use Rattle.sk_undo.proofs.Cites.{get-remove, same_map, true≢false, Entity, is_empty, SlotView, slot_of, slot_wrote}
use Rattle.sk_undo.proofs.Cites.{is_bare, slot_back, CanGoBackOnce, SlotMap, slot_in, placed, slots_wrote, CanUndoLast}
use Rattle.std.specs.FinMap.{FinMap, IsAntisymmetric}
use Rattle.sk_undo.proofs.Cites.{Ordering, IsTotalOrder, put}
use Rattle.sk_undo.proofs.Cites.{ChangedAt, PutBack, EntityState, entity_total, entity_exact}

-- what a map has with one key set, or made absent
pub get_put : {K X : Type 0} {R : K → K → Ordering} → IsTotalOrder R → (m : FinMap R X) (e q : K) (o : Option X) → get (put m e o) q ≡ cond (eq_by_cmp R q e) o (get m q)
get_put total m e q (Some v) = get-insert total m e v q
get_put total m e q None = get-remove total m e q

module _ {K X : Type 0} {R : K → K → Ordering} (total : IsTotalOrder R) (exact : IsAntisymmetric R) where
  kept : (m : FinMap R X) (e q : K) (o : Option X) → get m e ≡ o → (b : Bool) → eq_by_cmp R q e ≡ b → cond b o (get m q) ≡ get m q
  kept m e q o here true is = sym (ap (get m) (exact q e ((Equal-is (R q e)).0 is)) ∙ here)
  kept m e q o here false is = refl

  -- what is there, put again
  pub put_same : (m : FinMap R X) (e : K) (o : Option X) → get m e ≡ o → put m e o ≡ m
  put_same m e o here = same_map total exact _ _ (λ q. get_put total m e q o ∙ kept m e q o here (eq_by_cmp R q e) refl)

  later : (b : Bool) (o p r : Option X) → cond b o (cond b p r) ≡ cond b o r
  later true o p r = refl
  later false o p r = refl

  -- the later of two holds
  pub put_twice : (m : FinMap R X) (e : K) (o p : Option X) → put (put m e p) e o ≡ put m e o
  put_twice m e o p = same_map total exact _ _ (λ q.
      get_put total (put m e p) e q o ∙ ap (cond (eq_by_cmp R q e) o) (get_put total m e q p)
      ∙ later (eq_by_cmp R q e) o p (get m q) ∙ sym (get_put total m e q o))

-- the slot that is there, put again
pub insert_same : (m : SlotMap) (e : Entity) (s : SlotView) → get m e ≡ Some s → insert m e s ≡ m
insert_same m e s here = put_same entity_total entity_exact m e (Some s) here

-- an entity that had no slot has none again
pub remove_back : (m : SlotMap) (e : Entity) (v : SlotView) → get m e ≡ None → remove (insert m e v) e ≡ m
remove_back m e v absent = put_twice entity_total entity_exact m e None (Some v) ∙ put_same entity_total entity_exact m e None absent

at_same : (m : SlotMap) (e : Entity) (v : SlotView) → get (insert m e v) e ≡ Some v
at_same m e v = get-insert entity_total m e v e ∙ ap (λ b. cond b (Some v) (get m e)) ((eq_by_cmp_equiv entity_total).refl e)

-- what may be taken back from a slot may be taken back where the slot stands
pub can_again : (m : SlotMap) (e : Entity) (w : SlotView) (back : Option (PutBack EntityState)) → CanGoBackOnce w back → CanUndoLast (get (insert m e w) e) back
can_again m e w back h = subst (λ o. CanUndoLast o back) (sym (at_same m e w)) h

-- and leaves the slot that was there
pub back_again : (m : SlotMap) (e : Entity) (s w : SlotView) (back : Option (PutBack EntityState)) → get m e ≡ Some s → slot_back w back ≡ s
    → insert (insert m e w) e (slot_back (slot_in (get (insert m e w) e)) back) ≡ m
back_again m e s w back here is =
    ap (λ o. insert (insert m e w) e (slot_back (slot_in o) back)) (at_same m e w)
    ∙ ap (insert (insert m e w) e) is ∙ put_twice entity_total entity_exact m e (Some s) (Some w) ∙ insert_same m e s here

-- the slot that is there, changed
pub given : (m : SlotMap) (e : Entity) (s w : SlotView) (f : SlotView → SlotView) → Some s ≡ get m e → w ≡ f s → insert m e w ≡ insert m e (f (slot_in (get m e)))
given m e s w f here is = ap (insert m e) (is ∙ ap (λ o. f (slot_in o)) here)

-- ---- a slot placed
-- of an entity without a slot and without anything to place
pub placed_none : (m : SlotMap) (e : Entity) → get m e ≡ None → m ≡ placed m e (slot_of None)
placed_none m e none = sym (put_same entity_total entity_exact m e None none)

-- also by a write that isn't noted
untouched : (tags : List ℕ) (o : Option SlotView) → o ≡ None → is_empty tags ≡ true → slot_of None ≡ slot_wrote tags (slot_in o) None
untouched [] o none empty = ap (λ o. slot_wrote [] (slot_in o) None) (sym none)
untouched (t ∷ tags) o none empty = absurd (true≢false (sym empty))

pub placed_untouched : (m : SlotMap) (e : Entity) (tags : List ℕ) → get m e ≡ None → is_empty tags ≡ true → m ≡ slots_wrote tags m e None
placed_untouched m e tags none empty = placed_none m e none ∙ ap (placed m e) (untouched tags (get m e) none empty)

-- of one that is bare
pub placed_gone : (m : SlotMap) (e : Entity) (w : SlotView) → is_bare w ≡ true → remove (insert m e w) e ≡ placed m e w
placed_gone m e w bare = put_twice entity_total entity_exact m e None (Some w) ∙ ap (λ b. cond b (remove m e) (insert m e w)) (sym bare)

-- and of one that isn't
pub placed_full : (m : SlotMap) (e : Entity) (w : SlotView) → is_bare w ≡ false → insert m e w ≡ placed m e w
placed_full m e w full = ap (λ b. cond b (remove m e) (insert m e w)) (sym full)

-- a slot changed in place, and taken out where it is bare
pub changed_slot : (C : SlotView → SlotView → Type 0) (m n : SlotMap) (e : Entity) (s w : SlotView) → get m e ≡ Some s → C s w → n ≡ placed m e w → ChangedAt C m e n
changed_slot C m n e s w here did is = record { slot = w; changed = subst (λ o. C (slot_in o) w) (sym here) did; all = is; kept = λ _. ap is_some here }

pub changed_none : (C : SlotView → SlotView → Type 0) (m n : SlotMap) (e : Entity) → get m e ≡ None → C (slot_of None) (slot_of None) → n ≡ m → ChangedAt C m e n
changed_none C m n e none did is = record { slot = slot_of None; changed = subst (λ o. C (slot_in o) (slot_of None)) (sym none) did; all = is ∙ placed_none m e none; kept = λ there. sym (ap (λ (k : SlotMap). is_some (get k e)) is) ∙ there }
