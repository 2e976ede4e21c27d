-- The tests of what objects hold are exact.
use Rattle.std.specs.Bool.{beq}
use Rattle.std.specs.Cmp.{booleans_Decides}
use Rattle.std.proofs.Common.{ap}
use Rattle.std.proofs.lemmas.Bool.Decides.{Decides-and, Decides-like}
use Rattle.sk_ids.specs.Same.{IsExact}
use Rattle.sk_ids.specs.SameLemma.{exact_bytes as bytes_exact}
use Rattle.sk_objects.specs.Same.{same_bytes, same_pipe}

pub exact_bytes : IsExact same_bytes
exact_bytes = bytes_exact

pub exact_pipe : IsExact same_pipe
exact_pipe p q =
    Decides-like (same_pipe p q) (λ h i. record { bytes = h.1 i; shut = h.0 i }) (λ h. (ap (λ v. v.shut) h, ap (λ v. v.bytes) h))
    (Decides-and (beq p.shut q.shut) (same_bytes p.bytes q.bytes) (booleans_Decides p.shut q.shut) (exact_bytes p.bytes q.bytes))
