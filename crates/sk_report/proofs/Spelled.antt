-- One more block of a file, as it is printed.
use Rattle.sk_report.proofs.Names.{◌≡◌, ℕ, ◌+◌, ◌*◌, List, ◌++◌, take, arith, ap, ◌∙◌, take-add, flat_map}
use Rattle.sk_report.proofs.Names.{flat_map-append, part}

pub one_more : (d : ℕ → List ℕ) (f : List ℕ) (i : ℕ) → flat_map d (take (512 * (i + 1)) f) ≡ flat_map d (take (512 * i) f) ++ flat_map d (part f (512 * i) 512)
one_more d f i =
    let there : 512 * (i + 1) ≡ 512 * i + 512 = omega arith in
    ap (λ (n : ℕ). flat_map d (take n f)) there ∙ ap (flat_map d) (take-add (512 * i) 512 f) ∙ flat_map-append d (take (512 * i) f) (part f (512 * i) 512)
