-- Bytes that stand for themselves in a literal.
use Rattle.sk_words.proofs.Names.{◌≡◌, ℕ, ◌-◌, List, ◌++◌, length, take, drop, sym, ap, ◌∙◌, flat_map, take-append-drop}
use Rattle.sk_words.proofs.Names.{length-drop, take-length, flat_map-append, spelled_byte}

-- the bytes behind them are spelled
pub plain_cut : (bs : List ℕ) (n : ℕ) → flat_map spelled_byte (take n bs) ≡ take n bs → flat_map spelled_byte bs ≡ take n bs ++ flat_map spelled_byte (take (length bs - n) (drop n bs))
plain_cut bs n h =
    let behind : take (length bs - n) (drop n bs) ≡ drop n bs =
    ap (λ (k : ℕ). take k (drop n bs)) (sym (length-drop n bs)) ∙ take-length (drop n bs) in
    ap (flat_map spelled_byte) (sym (take-append-drop n bs))
    ∙ flat_map-append spelled_byte (take n bs) (drop n bs)
    ∙ (λ i. h i ++ flat_map spelled_byte (sym behind i))
