-- The order of entities is total and tells all apart: from the laws of the order that `Entity` derives, which is the one that specs/ writes.
use Rattle.std.specs.Prelude.{Option}
use Rattle.std.proofs.Common.{ap, subst}
use Rattle.std.specs.Ordering.{nat_cmp}
use Rattle.std.specs.Option.{option_cmp}
use Rattle.std.specs.Cmp.Lexicographic.{slice_cmp}
use Rattle.std.specs.Cmp.{IsTotalOrder}
use Rattle.std.specs.FinMap.{IsAntisymmetric}
use Rattle.std.proofs.lemmas.Map.Lookups.{CmpEqualImpliesEq, exact_pairs, exact_unsigned, exact_bytes}
use Rattle.sk_ids.specs.Entity.{entity_cmp, object_cmp}
use Rattle.sk_ids.specs.declared.pid.ObjId.{ObjId}
use Rattle.sk_ids.specs.declared.entity.Entity.{Entity}
use Rattle.sk_ids.specs.contracts.entity.EntityOrd.TheImpl.Laws.{total-law}
use Rattle.sk_ids.specs.declared.entity.Entity.TheVariants.{Proc, Sig, Exit, Obj, Link, Copy}
use Rattle.std.specs.Prelude.{◌≡◌, ℕ, List, Some, None, refl}
use Rattle.sk_ids.specs.contracts.entity.EntityOrd.TheImpl as entity_ord

order_is : (a b : Entity) → (entity_ord.ghosts).cmp a b ≡ entity_cmp a b
order_is (Proc p) (Proc q) = refl
order_is (Sig p) (Sig q) = refl
order_is (Exit p) (Exit q) = refl
order_is (Obj p) (Obj q) = refl
order_is (Link o n) (Link u m) = refl
order_is (Copy p) (Copy q) = refl
order_is _ _ = refl

-- what the derive computes
pub entity_same : (entity_ord.ghosts).cmp ≡ entity_cmp
entity_same i a b = order_is a b i

pub entity_total : IsTotalOrder entity_cmp
entity_total = subst IsTotalOrder entity_same total-law

exact_option : CmpEqualImpliesEq (option_cmp nat_cmp)
exact_option None None h = refl
exact_option (Some p) (Some q) h = ap Some (exact_unsigned p q h)
exact_option None (Some q) h = cc
exact_option (Some p) None h = cc

exact_objects : CmpEqualImpliesEq object_cmp
exact_objects a b h = ap (λ (p : Option ℕ × ℕ). let o : ObjId = record { maker = p.0; count = p.1 } in o) (exact_pairs (option_cmp nat_cmp) nat_cmp exact_option exact_unsigned (a.maker, a.count) (b.maker, b.count) h)

-- entities that compare alike are one
pub entity_exact : IsAntisymmetric entity_cmp
entity_exact (Proc p) (Proc q) h = ap Proc (exact_unsigned p q h)
entity_exact (Sig p) (Sig q) h = ap Sig (exact_unsigned p q h)
entity_exact (Exit p) (Exit q) h = ap Exit (exact_unsigned p q h)
entity_exact (Obj p) (Obj q) h = ap Obj (exact_objects p q h)
entity_exact (Link o n) (Link u m) h = ap (λ (p : ObjId × List ℕ). Link p.0 p.1) (exact_pairs object_cmp (slice_cmp nat_cmp) exact_objects exact_bytes (o, n) (u, m) h)
entity_exact (Copy p) (Copy q) h = ap Copy (exact_bytes p q h)
entity_exact _ _ h = cc
