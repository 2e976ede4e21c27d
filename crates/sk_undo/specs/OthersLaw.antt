-- A write leaves all other entities as they are.
use Rattle.std.specs.Prelude.{◌≡◌, Bool, true, false, Option, Some, None}
use Rattle.sk_undo.specs.Base.{cond, ◌∙◌, ap, eq_by_cmp, get, insert, remove, get-insert, get-remove, Entity}
use Rattle.sk_undo.specs.Base.{entity_cmp, entity_total, EntityState}
use Rattle.sk_undo.specs.Slot.{SlotView, is_bare, slot_wrote}
use Rattle.sk_undo.specs.Logs.{SlotMap, LogsView, slot_in, look_at, wrote}

left : (m : SlotMap) (e q : Entity) (s : SlotView) (bare : Bool) → eq_by_cmp entity_cmp q e ≡ false → get (cond bare (remove m e) (insert m e s)) q ≡ get m q
left m e q s true apart = get-remove entity_total m e q ∙ ap (λ b. cond b None (get m q)) apart
left m e q s false apart = get-insert entity_total m e s q ∙ ap (λ b. cond b (Some s) (get m q)) apart

pub wrote_others : (l : LogsView) (e q : Entity) (v : Option EntityState) → eq_by_cmp entity_cmp q e ≡ false → look_at (wrote l e v).slots q ≡ look_at l.slots q
wrote_others l e q v apart =
    let s = slot_wrote l.tags (slot_in (get l.slots e)) v in
    ap (λ o. (slot_in o).now) (left l.slots e q s (is_bare s) apart)
