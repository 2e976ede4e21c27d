-- The orders that entities and objects derive are those of specs/, and tell all apart.
use Rattle.std.proofs.Common.{◌≡◌, refl, sym, ap, subst}
use Rattle.std.specs.FinMap.{IsAntisymmetric}
use Rattle.sk_ids.specs.Entity.{object_cmp}
use Rattle.sk_ids.specs.declared.pid.ObjId.{ObjId}
use Rattle.sk_ids.specs.declared.entity.Entity.{Entity}
use Rattle.sk_ids.specs.declared.entity.Entity.TheVariants.{Proc, Sig, Exit, Obj, Link, Copy}
use Rattle.sk_ids.specs.contracts.entity.EntityOrd.TheImpl as entity_ord
use Rattle.sk_ids.specs.contracts.pid.ObjIdOrd.TheImpl as object_ord
use Rattle.sk_ids.specs.EntityLemma.{entity_same, entity_exact}

pub entity_tells : IsAntisymmetric (entity_ord.ghosts).cmp
entity_tells = subst IsAntisymmetric (sym entity_same) entity_exact

abbrev object_of : ObjId → Entity → ObjId
object_of d (Proc p) = d
object_of d (Sig p) = d
object_of d (Exit p) = d
object_of d (Obj u) = u
object_of d (Link u n) = d
object_of d (Copy n) = d

-- objects that compare alike are one
pub object_exact : IsAntisymmetric object_cmp
object_exact d o h = ap (object_of d) (entity_exact (Obj d) (Obj o) h)

computed_is : (a b : ObjId) → (object_ord.ghosts).cmp a b ≡ object_cmp a b
computed_is a b = refl

-- what the derive computes
pub object_same : (object_ord.ghosts).cmp ≡ object_cmp
object_same i a b = computed_is a b i

pub object_tells : IsAntisymmetric (object_ord.ghosts).cmp
object_tells = subst IsAntisymmetric (sym object_same) object_exact
