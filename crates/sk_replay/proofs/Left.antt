-- What is left of entries in the order of their keys is in it.
use Rattle.sk_replay.proofs.Names.{◌≡◌, ℕ, zero, suc, true, [], ◌∷◌, drop, refl, is_sorted, below_all, bytes_cmp}
use Rattle.sk_replay.proofs.Names.{Entries, and_parts}

pub left_rises : (n : ℕ) (entries : Entries) → is_sorted bytes_cmp entries ≡ true → is_sorted bytes_cmp (drop n entries) ≡ true
left_rises zero entries h = h
left_rises (suc n) [] h = refl
left_rises (suc n) (e ∷ es) h = left_rises n es (and_parts (below_all bytes_cmp e.0 es) (is_sorted bytes_cmp es) h).1
