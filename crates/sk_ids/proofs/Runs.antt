-- Rising lists without a gap are known by their ends.
use Rattle.sk_ids.proofs.Names.{◌≡◌, ℕ, ◌<◌, ◌≤◌, ◌+◌, ◌-◌, length, List, [], ◌∷◌, refl, sym, ◌∙◌, ap, subst, arith}
use Rattle.sk_ids.proofs.Names.{nat_cmp, or_left, eq-eqb, above}
use Rattle.std.specs.Prelude.{slice_index_or}
use Rattle.std.specs.List.Sorted.{IsStrictlySortedBy}

abbrev last_of : ℕ → List ℕ → ℕ
last_of x [] = x
last_of x (y ∷ ys) = last_of y ys

at_end : (x : ℕ) (xs : List ℕ) (i d : ℕ) → i ≡ length xs → slice_index_or (x ∷ xs) i d ≡ last_of x xs
at_end x xs i d is = ap (λ k. slice_index_or (x ∷ xs) k d) is ∙ by_end x xs where
  by_end : (x : ℕ) (xs : List ℕ) → slice_index_or (x ∷ xs) (length xs) d ≡ last_of x xs
  by_end x [] = refl
  by_end x (y ∷ ys) = by_end y ys

next_above : (x y : ℕ) (ys : List ℕ) → IsStrictlySortedBy nat_cmp (x ∷ y ∷ ys) → x < y
unfolding IsStrictlySortedBy
next_above x y ys s = above x (y ∷ ys) y s.0 (or_left _ _ (eq-eqb y y refl))

rest_rises : (x : ℕ) (xs : List ℕ) → IsStrictlySortedBy nat_cmp (x ∷ xs) → IsStrictlySortedBy nat_cmp xs
unfolding IsStrictlySortedBy
rest_rises x xs s = s.1

least : (x : ℕ) (xs : List ℕ) → IsStrictlySortedBy nat_cmp (x ∷ xs) → x + length xs ≤ last_of x xs
least x [] s = omega arith
least x (y ∷ ys) s = let more = next_above x y ys s in let rest = least y ys (rest_rises x (y ∷ ys) s) in omega arith

same_from : (x : ℕ) (xs ys : List ℕ) → IsStrictlySortedBy nat_cmp (x ∷ xs) → IsStrictlySortedBy nat_cmp (x ∷ ys) → length xs ≡ length ys
    → last_of x xs ≤ x + length xs → last_of x ys ≤ x + length ys → xs ≡ ys
same_from x [] [] s t len a b = refl
same_from x [] (z ∷ ys) s t len a b = absurd (omega arith)
same_from x (y ∷ xs) [] s t len a b = absurd (omega arith)
same_from x (y ∷ xs) (z ∷ ys) s t len a b =
    let y_more = next_above x y xs s in
    let z_more = next_above x z ys t in
    let y_least = least y xs (rest_rises x (y ∷ xs) s) in
    let z_least = least z ys (rest_rises x (z ∷ ys) t) in
    let same : y ≡ z = omega arith in
    let b_here : last_of z ys ≤ z + length ys = omega arith in
    let rest = same_from y xs ys (rest_rises x (y ∷ xs) s) (subst (λ w. IsStrictlySortedBy nat_cmp (w ∷ ys)) (sym same) (rest_rises x (z ∷ ys) t))
    (omega arith) (omega arith) (subst (λ w. last_of w ys ≤ w + length ys) (sym same) b_here) in
    (λ i. same i ∷ rest i)

pub same_run : (xs ys : List ℕ) (o n f l : ℕ) → IsStrictlySortedBy nat_cmp xs → IsStrictlySortedBy nat_cmp ys → length xs ≡ length ys
    → o ≡ slice_index_or xs 0 o → n ≡ slice_index_or xs (length xs - 1) n → f ≡ slice_index_or ys 0 f → l ≡ slice_index_or ys (length ys - 1) l
    → f ≡ o → l ≡ n → n - o < length xs → xs ≡ ys
same_run [] [] o n f l s t len o_is n_is f_is l_is first last span = refl
same_run [] (y ∷ ys) o n f l s t len o_is n_is f_is l_is first last span = absurd (omega arith)
same_run (x ∷ xs) [] o n f l s t len o_is n_is f_is l_is first last span = absurd (omega arith)
same_run (x ∷ xs) (y ∷ ys) o n f l s t len o_is n_is f_is l_is first last span =
    let n_end : n ≡ last_of x xs = n_is ∙ at_end x xs (length (x ∷ xs) - 1) n (omega arith) in
    let l_end : l ≡ last_of y ys = l_is ∙ at_end y ys (length (y ∷ ys) - 1) l (omega arith) in
    let same : x ≡ y = sym o_is ∙ sym first ∙ f_is in
    let x_least = least x xs s in
    let y_end : last_of y ys ≤ y + length ys = omega arith in
    let rest = same_from x xs ys s (subst (λ w. IsStrictlySortedBy nat_cmp (w ∷ ys)) (sym same) t) (omega arith) (omega arith) (subst (λ w. last_of w ys ≤ w + length ys) (sym same) y_end) in
    (λ i. same i ∷ rest i)
