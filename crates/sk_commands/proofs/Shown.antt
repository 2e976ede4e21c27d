-- What all keys have, key by key.
use Rattle.sk_commands.proofs.Names.{◌≡◌, ℕ, ◌≤◌, List, [], ◌∷◌, length, map, take, refl, ap, ◌∙◌, Vec, vec_items}
use Rattle.sk_commands.proofs.Names.{take_all, Have}

map_items : (has : Have) (keys : List (Vec ℕ)) → map (λ key. has key.items) keys ≡ map has (map vec_items keys)
map_items has [] = refl
map_items has (key ∷ keys) = ap (λ values. has key.items ∷ values) (map_items has keys)

pub all_shown : (has : Have) (keys : List (Vec ℕ)) (all : List (List ℕ)) (i : ℕ) → map vec_items keys ≡ all → length keys ≤ i → map (λ key. has key.items) (take i keys) ≡ map has all
all_shown has keys all i is past = ap (map (λ key. has key.items)) (take_all i keys past) ∙ map_items has keys ∙ ap (map has) is
