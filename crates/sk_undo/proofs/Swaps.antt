-- Writes of two entities in either order.
use Rattle.sk_undo.proofs.Cites.{◌≡◌, ℕ, Bool, true, false, cond, List, Option, Some, None, refl, sym, ◌∙◌, ap, subst}
use Rattle.sk_undo.proofs.Cites.{eq_by_cmp, eq_by_cmp_equiv, Equal-is, same_map, true≢false, Entity, entity_cmp}
use Rattle.sk_undo.proofs.Cites.{entity_total, entity_exact, EntityState, SlotView, is_bare, slot_wrote, SlotMap, slot_in}
use Rattle.sk_undo.proofs.Cites.{placed, slots_wrote, LogsView, Proc, goes_unnoted, look_at}
use Rattle.sk_undo.specs.Logs.{is_unnoted, wrote}
use Rattle.std.specs.FinMap as map
use Rattle.sk_undo.proofs.Passes.{wrote_get}

-- what is the same as two entities tells them to be the same
both_same : (q p e : Entity) → eq_by_cmp entity_cmp q p ≡ true → eq_by_cmp entity_cmp q e ≡ true → eq_by_cmp entity_cmp p e ≡ true
both_same q p e is h = subst (λ x. eq_by_cmp entity_cmp x e ≡ true) (entity_exact q p ((Equal-is (entity_cmp q p)).0 is)) h

apart_back : (p e : Entity) → eq_by_cmp entity_cmp p e ≡ false → eq_by_cmp entity_cmp e p ≡ false
apart_back p e apart =
    elim (eq_by_cmp entity_cmp e p) as (λ b. eq_by_cmp entity_cmp e p ≡ b → b ≡ false) [
      | true ↦ λ is. absurd (true≢false (sym (both_same e p e is ((eq_by_cmp_equiv entity_total).refl e)) ∙ apart))
      | false ↦ λ _. refl
    ] refl

-- the slot that an entity has after one is placed
placed_look : (m : SlotMap) (e : Entity) (s : SlotView) (q : Entity)
    → map.get (placed m e s) q ≡ cond (eq_by_cmp entity_cmp q e) (cond (is_bare s) None (Some s)) (map.get m q)
placed_look m e s q =
    elim (is_bare s) as (λ b. map.get (cond b (map.remove m e) (map.insert m e s)) q ≡ cond (eq_by_cmp entity_cmp q e) (cond b None (Some s)) (map.get m q)) [
      | true ↦ map.get-remove entity_total m e q
      | false ↦ map.get-insert entity_total m e s q
    ]

chosen : (a b : Bool) (o p r : Option SlotView) → (a ≡ true → b ≡ true → ⊥) → cond a o (cond b p r) ≡ cond b p (cond a o r)
chosen true true o p r never = absurd (never refl refl)
chosen true false o p r never = refl
chosen false true o p r never = refl
chosen false false o p r never = refl

placed_swaps : (m : SlotMap) (p e : Entity) (s t : SlotView) → eq_by_cmp entity_cmp p e ≡ false → placed (placed m e t) p s ≡ placed (placed m p s) e t
placed_swaps m p e s t apart = same_map entity_total entity_exact _ _ (λ q.
    placed_look (placed m e t) p s q
    ∙ ap (cond (eq_by_cmp entity_cmp q p) (cond (is_bare s) None (Some s))) (placed_look m e t q)
    ∙ chosen (eq_by_cmp entity_cmp q p) (eq_by_cmp entity_cmp q e) (cond (is_bare s) None (Some s)) (cond (is_bare t) None (Some t)) (map.get m q)
    (λ one two. true≢false (sym (both_same q p e one two) ∙ apart))
    ∙ sym (placed_look (placed m p s) e t q ∙ ap (cond (eq_by_cmp entity_cmp q e) (cond (is_bare t) None (Some t))) (placed_look m p s q)))

pub wrote_swaps : (tags : List ℕ) (m : SlotMap) (p e : Entity) (v w : Option EntityState) → eq_by_cmp entity_cmp p e ≡ false
    → slots_wrote tags (slots_wrote tags m e w) p v ≡ slots_wrote tags (slots_wrote tags m p v) e w
wrote_swaps tags m p e v w apart =
    ap (λ o. placed (slots_wrote tags m e w) p (slot_wrote tags (slot_in o) v)) (wrote_get tags m (slots_wrote tags m e w) e p w refl apart)
    ∙ placed_swaps m p e (slot_wrote tags (slot_in (map.get m p)) v) (slot_wrote tags (slot_in (map.get m e)) w) apart
    ∙ sym (ap (λ o. placed (slots_wrote tags m p v) e (slot_wrote tags (slot_in o) w)) (wrote_get tags m (slots_wrote tags m p v) p e v refl (apart_back p e apart)))

-- ---- a process beside an entity that was written
module _ (l n : LogsView) (e : Entity) (v : Option EntityState) (pid : ℕ) (is : n ≡ wrote l e v) (apart : eq_by_cmp entity_cmp (Proc pid) e ≡ false) where
  slot_stays : map.get n.slots (Proc pid) ≡ map.get l.slots (Proc pid)
  slot_stays = wrote_get l.tags l.slots n.slots e (Proc pid) v (ap (λ (x : LogsView). x.slots) is) apart

  pub still_unnoted : is_unnoted l.tags l.slots (Proc pid) ≡ true → is_unnoted n.tags n.slots (Proc pid) ≡ true
  still_unnoted so =
      ap (λ (x : LogsView). goes_unnoted x.tags (slot_in (map.get n.slots (Proc pid))).log) is ∙ ap (λ o. goes_unnoted l.tags (slot_in o).log) slot_stays ∙ so

  pub value_stays : look_at n.slots (Proc pid) ≡ look_at l.slots (Proc pid)
  value_stays = ap (λ o. (slot_in o).now) slot_stays

  -- both writes from what stood at first
  pub wrote_both : (to : Option EntityState → Option EntityState) (done : LogsView) → done ≡ wrote n (Proc pid) (to (look_at n.slots (Proc pid)))
      → done ≡ wrote (wrote l e v) (Proc pid) (to (look_at l.slots (Proc pid)))
  wrote_both to done so = so ∙ ap (λ o. wrote n (Proc pid) (to o)) value_stays ∙ ap (λ (x : LogsView). wrote x (Proc pid) (to (look_at l.slots (Proc pid)))) is

  pub wrote_first : (w : Option EntityState) → wrote (wrote l e v) (Proc pid) w ≡ wrote (wrote l (Proc pid) w) e v
  wrote_first w = λ i. record { slots = wrote_swaps l.tags l.slots (Proc pid) e w v apart i; tags = l.tags }
