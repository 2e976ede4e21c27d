-- The guesses that keys depend on, one key after another.
use Rattle.sk_batched.proofs.Names.{◌≡◌, ℕ, zero, suc, Bool, true, false, ◌||◌, ◌&&◌, List, [], ◌∷◌, ◌++◌, length, drop}
use Rattle.sk_batched.proofs.Names.{take, arith, ◌+◌, ◌<◌, map, Option, refl, sym, ◌∙◌, ap, slice_index_or}
use Rattle.sk_batched.proofs.Names.{suc-eq-add-one, drop-cons, list_any, Vec, vec_items, list_any-append, or_from}
use Rattle.sk_batched.proofs.Names.{or_parts, and-false}

pub joins : (a e d n : Bool) → ((a || (e && n)) || (d && n)) ≡ (a || ((e || d) && n))
joins true e d n = refl
joins false true d true = refl
joins false true d false = and-false d
joins false false d n = refl

-- what is left begins with the next
pub next_at : {X : Type 0} (xs : List X) (i : ℕ) (x : X) → i < length xs → x ≡ slice_index_or xs i x → drop i xs ≡ x ∷ drop (i + 1) xs
next_at xs i x lt at = drop-cons xs i x lt ∙ (λ k. sym at k ∷ drop (suc-eq-add-one i k) xs)

-- none of one more of them passes
any_first : {X : Type 0} (test : X → Bool) (xs : List X) (i : ℕ) (x : X) → i < length xs → x ≡ slice_index_or xs i x → list_any test (take i xs) ≡ false → test x ≡ false → list_any test (take (suc i) xs) ≡ false
any_first test [] i x lt at before here = absurd (omega arith)
any_first test (y ∷ ys) zero x lt at before here = or_from (test y) false (ap test (sym at) ∙ here) refl
any_first test (y ∷ ys) (suc i) x lt at before here =
    let parts = or_parts (test y) (list_any test (take i ys)) before in
    or_from (test y) (list_any test (take (suc i) ys)) parts.0 (any_first test ys i x (omega arith) at parts.1 here)

pub any_next : {X : Type 0} (test : X → Bool) (xs : List X) (i : ℕ) (x : X) → i < length xs → x ≡ slice_index_or xs i x → list_any test (take i xs) ≡ false → test x ≡ false → list_any test (take (i + 1) xs) ≡ false
any_next test xs i x lt at before here = ap (λ n. list_any test (take n xs)) (sym (suc-eq-add-one i)) ∙ any_first test xs i x lt at before here

pub or_no : (a : Bool) → (a || false) ≡ a
or_no true = refl
or_no false = refl

-- one more is there, of those that are left
pub goes_on : (was now left whole e d n : Bool) → (was || (left && n)) ≡ whole → left ≡ (e || d) → now ≡ (was || (e && n)) → (now || (d && n)) ≡ whole
goes_on was now left whole e d n before next after =
    ap (λ b. b || (d && n)) after ∙ joins was e d n ∙ ap (λ b. was || (b && n)) (sym next) ∙ before

any_key : (test : List ℕ → Bool) (ks : List (Vec ℕ)) → list_any test (map vec_items ks) ≡ list_any (λ (k : Vec ℕ). test k.items) ks
any_key test [] = refl
any_key test (k ∷ ks) = ap (λ b. test k.items || b) (any_key test ks)

module _ {V : Type 0} (test : List ℕ → Bool) where
  any_write : (ws : List (Vec ℕ × Option V)) → list_any test (map (λ (w : List ℕ × Option V). w.0) (map (λ (w : Vec ℕ × Option V). (vec_items w.0, w.1)) ws)) ≡ list_any (λ (w : Vec ℕ × Option V). test w.0.items) ws
  any_write [] = refl
  any_write (w ∷ ws) = ap (λ b. test w.0.items || b) (any_write ws)

  pub any_touched : (ks : List (Vec ℕ)) (ws : List (Vec ℕ × Option V))
      → list_any test (map vec_items ks ++ map (λ (w : List ℕ × Option V). w.0) (map (λ (w : Vec ℕ × Option V). (vec_items w.0, w.1)) ws)) ≡ (list_any (λ (k : Vec ℕ). test k.items) ks || list_any (λ (w : Vec ℕ × Option V). test w.0.items) ws)
  any_touched ks ws = list_any-append test (map vec_items ks) (map (λ (w : List ℕ × Option V). w.0) (map (λ (w : Vec ℕ × Option V). (vec_items w.0, w.1)) ws)) ∙ (λ i. any_key test ks i || any_write ws i)
