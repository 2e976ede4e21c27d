-- A write leaves all other entities as they are.
use Rattle.std.specs.Prelude.{◌≡◌, false, Option, Some, None}
use Rattle.sk_store.specs.Base.{cond, ◌∙◌, ap, eq_by_cmp, get, get-insert, get-remove, put, Entity, entity_cmp}
use Rattle.sk_store.specs.Base.{entity_total, EntityState}
use Rattle.sk_store.specs.State.{State}

pub put_others : (s : State) (e q : Entity) (v : Option EntityState) → eq_by_cmp entity_cmp q e ≡ false → get (put s e v) q ≡ get s q
put_others s e q None apart = get-remove entity_total s e q ∙ ap (λ b. cond b None (get s q)) apart
put_others s e q (Some v) apart = get-insert entity_total s e v q ∙ ap (λ b. cond b (Some v) (get s q)) apart
