-- A word more is passed.
use Rattle.std.proofs.Common.{◌≡◌, ◌<◌, ◌-◌, ℕ, zero, suc, List, ◌∷◌, drop, refl, arith}

pub drop_more : (n : ℕ) (w : List ℕ) (ws : List (List ℕ)) → 0 < n → drop n (w ∷ ws) ≡ drop (n - 1) ws
drop_more zero w ws h = absurd (omega (arith, h))
drop_more (suc n) w ws h =
    let one : suc n - 1 ≡ n = omega arith in
    rw one refl
