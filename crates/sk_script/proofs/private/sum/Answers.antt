-- A sum is answered just where 64 bits hold it: from what std says of `checked_add`.
use Rattle.sk_script.proofs.Names.{◌≡◌, ◌^◌, Bool, true, false, Option, Some, None, Decides, refl, ap, ℤ, pos, negsuc}
use Rattle.sk_script.proofs.Names.{◌+ℤ◌, SomeIff, FitsSigned, if◌then◌else◌, w64, false≢true, Decides-ltb, to_z-of_z}
use Rattle.sk_script.proofs.Names.{fits}
use Rattle.sk_script.proofs.private.sum.Goals as goal

decided : (b : Bool) (P : Type 0) (z : ℤ) (r : Option ℤ) → Decides b P → SomeIff r P z → r ≡ (if b then Some z else None)
decided true P z (Some x) d s = ap Some s.1
decided true P z None d none = absurd (none (d.0 refl))
decided false P z (Some x) d s = absurd (false≢true (d.1 s.0))
decided false P z None d none = refl

fits-Decides : (z : ℤ) → Decides (fits z) (FitsSigned w64 z)
fits-Decides (pos n) = (λ e. record { sfits = (Decides-ltb n (2 ^ 63)).0 e }, λ f. (Decides-ltb n (2 ^ 63)).1 f.sfits)
fits-Decides (negsuc n) = (λ e. record { sfits = (Decides-ltb n (2 ^ 63)).0 e }, λ f. (Decides-ltb n (2 ^ 63)).1 f.sfits)

pub returns : goal.returns
returns c =
    let sum : ℤ = c.args.a +ℤ c.args.b in
    let said = rw (to_z-of_z w64 c.args.a c.ranges.a, to_z-of_z w64 c.args.b c.ranges.b) at c.checked_add.ensures in
    decided (fits sum) (FitsSigned w64 sum) sum c.checked_add.result (fits-Decides sum) said
