-- The tests of texts and identifiers are exact.
use Rattle.std.specs.Prelude.{nat_eq}
use Rattle.std.proofs.Common.{ap}
use Rattle.std.specs.Option.{option_eq}
use Rattle.std.specs.Cmp.{unsigned_Decides, first_so, second_so}
use Rattle.std.specs.Cmp.Lexicographic.{pointwise, pointwise_decides}
use Rattle.sk_ids.specs.Same.{IsExact}
use Rattle.sk_ids.specs.Exact.{exact_from, exact_option}
use Rattle.sk_ids.specs.declared.pid.ObjId.{ObjId}
use Rattle.sk_ids.specs.declared.entity.Entity.{Entity}
use Rattle.sk_ids.specs.declared.entity.Entity.TheVariants.{Proc, Sig, Exit, Obj, Link, Copy}
use Rattle.sk_ids.specs.contracts.pid.ObjIdEq.TheImpl.Laws.{laws-law as object_laws}
use Rattle.sk_ids.specs.contracts.entity.EntityEq.TheImpl.Laws.{laws-law as entity_laws}
use Rattle.std.specs.Prelude.{◌≡◌, true}
use Rattle.sk_ids.specs.contracts.text.TextPartialEq.TheImpl as text
use Rattle.sk_ids.specs.contracts.pid.ObjIdPartialEq.TheImpl as object
use Rattle.sk_ids.specs.contracts.pid.PidPartialEq.TheImpl as pid
use Rattle.sk_ids.specs.contracts.entity.EntityPartialEq.TheImpl as entity

pub exact_bytes : IsExact (pointwise nat_eq)
exact_bytes = pointwise_decides unsigned_Decides

pub exact_text : IsExact (text.ghosts).eq
exact_text = exact_bytes

pub exact_pid : IsExact (pid.ghosts).eq
exact_pid = unsigned_Decides

object_from : (a b : ObjId) → (object.ghosts).eq a b ≡ true → a ≡ b
object_from a b h =
    let maker = (exact_option unsigned_Decides a.maker b.maker).0 (first_so (option_eq nat_eq a.maker b.maker) (nat_eq a.count b.count) h) in
    let count = (unsigned_Decides a.count b.count).0 (second_so (option_eq nat_eq a.maker b.maker) (nat_eq a.count b.count) h) in
    λ i. record { maker = maker i; count = count i }

pub exact_object : IsExact (object.ghosts).eq
exact_object = exact_from (object.ghosts).eq object_laws.refl object_from

entity_from : (a b : Entity) → (entity.ghosts).eq a b ≡ true → a ≡ b
entity_from (Proc p) (Proc q) h = ap Proc ((unsigned_Decides p q).0 h)
entity_from (Sig p) (Sig q) h = ap Sig ((unsigned_Decides p q).0 h)
entity_from (Exit p) (Exit q) h = ap Exit ((unsigned_Decides p q).0 h)
entity_from (Obj p) (Obj q) h = ap Obj ((exact_object p q).0 h)
entity_from (Link o n) (Link u m) h =
    let at = (exact_object o u).0 (first_so ((object.ghosts).eq o u) (pointwise nat_eq n m) h) in
    let name = (exact_bytes n m).0 (second_so ((object.ghosts).eq o u) (pointwise nat_eq n m) h) in
    λ i. Link (at i) (name i)
entity_from (Copy p) (Copy q) h = ap Copy ((exact_bytes p q).0 h)
entity_from _ _ h = cc

pub exact_entity : IsExact (entity.ghosts).eq
exact_entity = exact_from (entity.ghosts).eq entity_laws.refl entity_from
