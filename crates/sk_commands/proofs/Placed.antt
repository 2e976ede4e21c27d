-- The place of a key among keys, key by key.
use Rattle.sk_commands.proofs.Names.{◌≡◌, ℕ, ◌+◌, ◌<◌, List, [], ◌∷◌, ◌++◌, length, map, take, drop, get_or, refl, sym}
use Rattle.sk_commands.proofs.Names.{ap, ◌∙◌, nat_cmp, slice_cmp, by_order, Vec, vec_items, Ordering, Equal, drop_more}
use Rattle.sk_commands.proofs.Names.{take-append-drop, with_known}

-- A key stands behind the first of these.
abbrev pub IsBehind : List ℕ → List (Vec ℕ) → ℕ → Type 0
IsBehind key keys i = with_known (map vec_items keys) key ≡ map vec_items (take i keys) ++ with_known (map vec_items (drop i keys)) key

map_append : (xs ys : List (Vec ℕ)) → map vec_items (xs ++ ys) ≡ map vec_items xs ++ map vec_items ys
map_append [] ys = refl
map_append (x ∷ xs) ys = ap (λ r. x.items ∷ r) (map_append xs ys)

here : (key : List ℕ) (keys : List (Vec ℕ)) (i : ℕ) (e : Vec ℕ) (o : Ordering) → i < length keys
    → get_or keys i e ≡ e → slice_cmp nat_cmp key e.items ≡ o
    → with_known (map vec_items (drop i keys)) key ≡ by_order o (key ∷ e.items ∷ map vec_items (drop (i + 1) keys)) (e.items ∷ map vec_items (drop (i + 1) keys)) (e.items ∷ with_known (map vec_items (drop (i + 1) keys)) key)
here key keys i e o small is order =
    let rest = map vec_items (drop (i + 1) keys) in
    ap (λ ks. with_known (map vec_items ks) key) (drop_more keys i e small ∙ ap (λ x. x ∷ drop (i + 1) keys) is)
    ∙ ap (λ o. by_order o (key ∷ e.items ∷ rest) (e.items ∷ rest) (e.items ∷ with_known rest key)) order

rest_is : (keys : List (Vec ℕ)) (i : ℕ) (e : Vec ℕ) → i < length keys → get_or keys i e ≡ e
    → e.items ∷ map vec_items (drop (i + 1) keys) ≡ map vec_items (drop i keys)
rest_is keys i e small is = sym (ap (map vec_items) (drop_more keys i e small ∙ ap (λ x. x ∷ drop (i + 1) keys) is))

pub stands_at : (key : List ℕ) (keys : List (Vec ℕ)) (i : ℕ) (e : Vec ℕ) → i < length keys → get_or keys i e ≡ e
    → slice_cmp nat_cmp key e.items ≡ Equal → IsBehind key keys i
    → with_known (map vec_items keys) key ≡ map vec_items keys
stands_at key keys i e small is equal behind =
    behind ∙ ap (λ r. map vec_items (take i keys) ++ r) (here key keys i e Equal small is equal ∙ rest_is keys i e small is)
    ∙ sym (map_append (take i keys) (drop i keys)) ∙ ap (map vec_items) (take-append-drop i keys)
