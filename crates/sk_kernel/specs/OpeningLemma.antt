-- The test of two openings is exact.
use Rattle.std.specs.Prelude.{◌&&◌, nat_eq}
use Rattle.sk_kernel.specs.Base.{unsigned_Decides, ap, Decides-and, Decides-like, IsExact, same_plain, exact_plain}
use Rattle.sk_kernel.specs.Opening.{same_opening}

pub exact_opening : IsExact same_opening
exact_opening o p =
    let number = nat_eq o.number p.number in
    let limit = nat_eq o.limit p.limit in
    let guess = nat_eq o.guess p.guess in
    let start = same_plain o.start p.start in
    Decides-like (same_opening o p) (λ h i. record { start = h.1.1.1 i; number = h.0 i; limit = h.1.0 i; guess = h.1.1.0 i })
    (λ h. (ap (λ v. v.number) h, (ap (λ v. v.limit) h, (ap (λ v. v.guess) h, ap (λ v. v.start) h))))
    (Decides-and number (limit && (guess && start)) (unsigned_Decides o.number p.number)
    (Decides-and limit (guess && start) (unsigned_Decides o.limit p.limit)
    (Decides-and guess start (unsigned_Decides o.guess p.guess) (exact_plain o.start p.start))))
