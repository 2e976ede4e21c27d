-- What a batch logs depends on its guess.
use Rattle.sk_served.proofs.Names.{◌≡◌, ◌<◌, ℕ, suc, true, List, [], ◌∷◌, ◌++◌, map, slice_get, Option, Some, Ok, refl}
use Rattle.sk_served.proofs.Names.{ap, ◌∙◌, zero, eq_by_cmp, FinMap, get, list_any, or_left, or_right, list_any-append}
use Rattle.sk_served.proofs.Names.{bytes_eq-Decides, Dep, fed, itself, is_in, touches, writes, MarkedEffect, after}
use Rattle.sk_served.proofs.Names.{effects, marked_effect, outcome, in_from, effect_of, Answer, Have, looks_at}
use Rattle.sk_served.proofs.Names.{bytes_cmp, bytes_same, bytes_total, tied_is, batch_key, batch_keys, deed, mark}
use Rattle.sk_served.proofs.Names.{served, Asked, Entry, Opens, Runs}
use Rattle.sk_served.proofs.Steps.{acts}

-- what an entry leaves, where keys have this
abbrev left_by : Entry → Have → MarkedEffect (List ℕ) (List ℕ) (ℕ × (ℕ × Answer))
left_by n has = marked_effect served (mark n) (Ok (effect_of has (deed n has)))

effect_at : (s : FinMap served.order (List ℕ)) (ns : List Entry) (i : ℕ) (n : Entry) → slice_get ns i ≡ Some n
    → (has : Have) × (slice_get (effects served s ns) i ≡ Some (left_by n has))
effect_at s [] i n is = cc
effect_at s (m ∷ ns) zero n is =
    let same : m ≡ n = cc in
    (get s, ap (λ o. Some (marked_effect served (mark m) o)) (acts m (get s)) ∙ ap (λ n. Some (left_by n (get s))) same)
effect_at s (m ∷ ns) (suc i) n is = effect_at (after served (outcome served s m) s) ns i n is

itself_in : (key : List ℕ) (keys : List (List ℕ)) → is_in bytes_cmp (key ∷ keys) key ≡ true
itself_in key keys = or_left _ _ (bytes_same key key ∙ (bytes_eq-Decides key key).1 refl)

names_read : (has : Have) (keys : List (List ℕ))
    → map {A = List ℕ × Option (List ℕ)} (λ r. r.0) (map (λ k. (k, has k)) keys) ≡ keys
names_read has [] = refl
names_read has (k ∷ keys) = ap (λ ks. k ∷ ks) (names_read has keys)

touches_key : (a : Asked) (n : ℕ) (has : Have) → a.batch ≡ Some n
    → is_in bytes_cmp (touches (left_by (Runs a) has)) (batch_key n) ≡ true
touches_key a n has batch =
    let keys = looks_at a.known a.work ++ batch_keys a.batch in
    let test = eq_by_cmp bytes_cmp (batch_key n) in
    list_any-append test (map {A = List ℕ × Option (List ℕ)} (λ r. r.0) (map (λ k. (k, has k)) keys)) (writes (left_by (Runs a) has))
    ∙ or_left _ _
    (ap (list_any test) (names_read has keys)
    ∙ list_any-append test (looks_at a.known a.work) (batch_keys a.batch)
    ∙ or_right _ _ (ap (λ b. list_any test (batch_keys b)) batch ∙ itself_in (batch_key n) []))

pub rests_on_batch : (start : FinMap served.order (List ℕ)) (ns : List Entry) (j i n : ℕ) (asked : Asked) → j < i
    → slice_get ns j ≡ Some (Opens n) → slice_get ns i ≡ Some (Runs asked) → asked.batch ≡ Some n
    → Dep (effects served start ns) n i
rests_on_batch start ns j i n asked earlier at_j at_i batch =
    let from = effect_at start ns j (Opens n) at_j in
    let to = effect_at start ns i (Runs asked) at_i in
    fed j (itself (record { marked_effect = left_by (Opens n) from.0; at_i = from.1; mark = refl }))
    (record {
      earlier = earlier;
      from = left_by (Opens n) from.0;
      to = left_by (Runs asked) to.0;
      at_j = from.1;
      at_i = to.1;
      entity = batch_key n;
      is_written = in_from bytes_total tied_is (batch_key n ∷ []) (batch_key n) (itself_in (batch_key n) []);
      is_touched = in_from bytes_total tied_is (touches (left_by (Runs asked) to.0)) (batch_key n) (touches_key asked n to.0 batch);
    })
