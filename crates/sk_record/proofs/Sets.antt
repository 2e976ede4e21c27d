-- Lists of entities as sets, and writes to a map.
use Rattle.sk_record.proofs.Names.{◌≡◌, Bool, false, cond, List, [], ◌∷◌, ◌++◌, map, Option, Some, None, refl, sym, ◌∙◌}
use Rattle.sk_record.proofs.Names.{ap, list_any, Ordering, eq_by_cmp, IsTotalOrder, FinMap, get, get-insert, get-remove}
use Rattle.sk_record.proofs.Names.{or_parts, list_any-append, is_in, put, put_all}

-- the test of a joined list, where it fails
pub none_of_both : {A : Type 0} (p : A → Bool) (xs ys : List A) → list_any p (xs ++ ys) ≡ false → (list_any p xs ≡ false) × (list_any p ys ≡ false)
none_of_both p xs ys h = or_parts _ _ (sym (list_any-append p xs ys) ∙ h)

module _ {E V : Type 0} {R : E → E → Ordering} (total : IsTotalOrder R) where
  -- what is read after a write
  pub get-put : (s : FinMap R V) (e : E) (o : Option V) (q : E) → get (put s e o) q ≡ cond (eq_by_cmp R q e) o (get s q)
  get-put s e (Some v) q = get-insert total s e v q
  get-put s e None q = get-remove total s e q

  -- writes leave every other entity
  pub get-put_all_other : (ws : List (E × Option V)) (s : FinMap R V) (e : E) → is_in R (map (λ w. w.0) ws) e ≡ false → get (put_all ws s) e ≡ get s e
  get-put_all_other [] s e h = refl
  get-put_all_other (w ∷ ws) s e h =
      let parts = or_parts _ _ h in
      get-put_all_other ws (put s w.0 w.1) e parts.1 ∙ get-put s w.0 w.1 e ∙ ap (λ b. cond b w.1 (get s e)) parts.0

  -- what is equal before some writes is equal after them
  pub get-put_all_same : (ws : List (E × Option V)) (s t : FinMap R V) (e : E) → get s e ≡ get t e → get (put_all ws s) e ≡ get (put_all ws t) e
  get-put_all_same [] s t e h = h
  get-put_all_same (w ∷ ws) s t e h =
      get-put_all_same ws (put s w.0 w.1) (put t w.0 w.1) e
      (get-put s w.0 w.1 e ∙ ap (cond (eq_by_cmp R e w.0) w.1) h ∙ sym (get-put t w.0 w.1 e))
