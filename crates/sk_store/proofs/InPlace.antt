-- A value of the store changed where it stands: from what a finite map reads after its writes.
use Rattle.sk_store.proofs.Names.{◌≡◌, Bool, true, false, cond, Some, None, refl, sym, ◌∙◌, ap, subst, eq_by_cmp}
use Rattle.sk_store.proofs.Names.{Equal-is, entity_cmp, get, insert, remove, get-insert, get-remove, same_map, Entity}
use Rattle.sk_store.proofs.Names.{entity_total, entity_exact, Change, Undo, State, changed, StateFits, state_undone}
use Rattle.sk_store.proofs.Names.{EntityState, CanChangeBack, changed_back}
use Rattle.sk_store.proofs.Puts.{at_same, insert_back}

-- the value after its change stands where it was
pub put_changed : (s : State) (e : Entity) (v w : EntityState) (c : Change) → Some v ≡ get s e → w ≡ changed (Some v) c → insert s e w ≡ insert s e (changed (get s e) c)
put_changed s e v w c here is = ap (insert s e) (is ∙ ap (λ o. changed o c) here)

kept : (q e : Entity) (m : State) (v : EntityState) → get m e ≡ Some v → (b : Bool) → eq_by_cmp entity_cmp q e ≡ b → cond b (Some v) (get m q) ≡ get m q
kept q e m v here true is = sym (ap (get m) (entity_exact q e ((Equal-is (entity_cmp q e)).0 is)) ∙ here)
kept q e m v here false is = refl

-- what is there, set again
pub insert_same : (m : State) (e : Entity) (v : EntityState) → get m e ≡ Some v → insert m e v ≡ m
insert_same m e v here = same_map entity_total entity_exact _ _ (λ q. get-insert entity_total m e v q ∙ kept q e m v here (eq_by_cmp entity_cmp q e) refl)

-- what may be taken back from a value may be taken back where the value stands
pub can_change_back : (s : State) (e : Entity) (w : EntityState) (undo : Undo) → StateFits w undo → CanChangeBack (get (insert s e w) e) undo
can_change_back s e w undo h = subst (λ o. CanChangeBack o undo) (sym (at_same s e w)) h

-- the value with its change taken back stands where it was
pub put_undone : (s : State) (e : Entity) (v w : EntityState) (undo : Undo) → Some v ≡ get s e → w ≡ state_undone v undo → insert s e w ≡ changed_back (get s e) s e undo
put_undone s e v w undo here is = ap (insert s e) is ∙ ap (λ o. changed_back o s e undo) here

-- a change, and then what takes it back, leave what was there
pub changed_and_back : (s : State) (e : Entity) (v w : EntityState) (undo : Undo) → get s e ≡ Some v → state_undone w undo ≡ v
    → changed_back (get (insert s e w) e) (insert s e w) e undo ≡ s
changed_and_back s e v w undo here is =
    ap (λ o. changed_back o (insert s e w) e undo) (at_same s e w) ∙ ap (insert (insert s e w) e) is ∙ insert_back s e v w here

gone : (q e : Entity) (m : State) (v : EntityState) → get m e ≡ None → (b : Bool) → eq_by_cmp entity_cmp q e ≡ b → cond b None (cond b (Some v) (get m q)) ≡ get m q
gone q e m v absent true is = sym (ap (get m) (entity_exact q e ((Equal-is (entity_cmp q e)).0 is)) ∙ absent)
gone q e m v absent false is = refl

-- an entity that was absent is made absent again
pub remove_back : (m : State) (e : Entity) (v : EntityState) → get m e ≡ None → remove (insert m e v) e ≡ m
remove_back m e v absent = same_map entity_total entity_exact _ _ (λ q.
    get-remove entity_total (insert m e v) e q
    ∙ ap (cond (eq_by_cmp entity_cmp q e) None) (get-insert entity_total m e v q)
    ∙ gone q e m v absent (eq_by_cmp entity_cmp q e) refl)
