-- How many outputs each channel has.
use Rattle.sk_outputs.proofs.Names.{nil_from_length, ◌≡◌, ℕ, zero, suc, ◌+◌, ◌<◌, ◌≤◌, Bool, true, false, not, cond}
use Rattle.sk_outputs.proofs.Names.{List, [], ◌∷◌, ◌++◌, length, drop, get_or, refl, sym, ◌∙◌, ap, arith, ◌==◌}
use Rattle.sk_outputs.proofs.Names.{slice_index_or, prefix_len, remove, eqb-true, eqb-false, Tagged, lightened}
use Rattle.sk_outputs.proofs.Names.{not_dropped, released, has, Said, said_at, is_empty, is_ready, AreCounted}
use Rattle.sk_outputs.proofs.Firsts.{other}
use Rattle.sk_outputs.proofs.Ready.{ready_is}

pub drop_is : {A : Type 0} (xs : List A) (i : ℕ) (x : A) → i < length xs → x ≡ slice_index_or xs i x → drop i xs ≡ x ∷ drop (i + 1) xs
drop_is xs i x lt at = by_suc xs i x lt at ∙ ap (λ n. x ∷ drop n xs) more where
  more : suc i ≡ i + 1
  more = omega arith

  by_suc : {A : Type 0} (xs : List A) (i : ℕ) (x : A) → i < length xs → x ≡ slice_index_or xs i x → drop i xs ≡ x ∷ drop (suc i) xs
  by_suc [] i x lt at = absurd (omega arith)
  by_suc (y ∷ xs) zero x lt at = ap (λ z. z ∷ xs) (sym at)
  by_suc (y ∷ xs) (suc i) x lt at = by_suc xs i x (omega arith) at

none_of : {A : Type 0} (xs : List A) → (length xs == 0) ≡ is_empty xs
none_of [] = refl
none_of (x ∷ xs) =
    elim (suc (length xs) == 0) as (λ b. (suc (length xs) == 0) ≡ b → b ≡ false) [
      | true ↦ λ is. let none = eqb-true (suc (length xs)) 0 is in absurd (omega (arith, none))
      | false ↦ λ _. refl
    ] refl

module _ {O : Type 0} where
  -- those that one has
  abbrev many : Said O → ℕ → ℕ
  many xs t = length (said_at xs t)

  first_many : (x : Tagged (ℕ × O)) (xs : Said O) (t : ℕ) → many (x ∷ xs) t ≡ cond (x.0.0 == t) (many xs t + 1) (many xs t)
  first_many x xs t =
      elim (x.0.0 == t) as (λ b. length (cond b (x ∷ said_at xs t) (said_at xs t)) ≡ cond b (many xs t + 1) (many xs t)) [
        | true ↦ omega arith
        | false ↦ refl
      ]

  more_many : (xs : Said O) (x : Tagged (ℕ × O)) (t : ℕ) → many (xs ++ x ∷ []) t ≡ cond (x.0.0 == t) (many xs t + 1) (many xs t)
  more_many [] x t = first_many x [] t
  more_many (y ∷ xs) x t =
      first_many y (xs ++ x ∷ []) t
      ∙ ap (λ n. cond (y.0.0 == t) (n + 1) n) (more_many xs x t)
      ∙ turned (y.0.0 == t) (x.0.0 == t) (many xs t)
      ∙ ap (λ n. cond (x.0.0 == t) (n + 1) n) (sym (first_many y xs t)) where
        turned : (a b : Bool) (n : ℕ) → cond a (cond b (n + 1) n + 1) (cond b (n + 1) n) ≡ cond b (cond a (n + 1) n + 1) (cond a (n + 1) n)
        turned true true n = refl
        turned true false n = refl
        turned false true n = refl
        turned false false n = refl

  -- one more is said
  pub counted_more : (xs : Said O) (x : Tagged (ℕ × O)) (to : ℕ) → to ≡ x.0.0 → (old new : List ℕ) → AreCounted xs old
      → ((t : ℕ) → get_or new t 0 ≡ cond (to == t) (get_or old t 0 + 1) (get_or old t 0)) → AreCounted (xs ++ x ∷ []) new
  counted_more xs x to same old new counted up t =
      up t ∙ ap (λ n. cond (to == t) (n + 1) n) (counted t) ∙ ap (λ k. cond (k == t) (many xs t + 1) (many xs t)) same ∙ sym (more_many xs x t)

  -- one is taken
  pub counted_less : (xs ys : Said O) (x : Tagged (ℕ × O)) (to : ℕ) (old new : List ℕ) → AreCounted xs old
      → ((t : ℕ) → get_or old t 0 ≡ cond (to == t) (get_or new t 0 + 1) (get_or new t 0)) → said_at xs to ≡ x ∷ said_at ys to
      → ((t : ℕ) → (to == t) ≡ false → said_at ys t ≡ said_at xs t) → AreCounted ys new
  counted_less xs ys x to old new counted down first others t =
      elim (to == t) as (λ b. (to == t) ≡ b → get_or old t 0 ≡ cond b (get_or new t 0 + 1) (get_or new t 0) → get_or new t 0 ≡ many ys t) [
        | true ↦ λ same one.
            let e = eqb-true to t same in
            let all : many xs t ≡ suc (many ys t) = ap length (ap (said_at xs) (sym e) ∙ first ∙ ap (λ k. x ∷ said_at ys k) e) in
            omega (arith, counted t, one, all)
        | false ↦ λ apart same. sym same ∙ counted t ∙ ap length (sym (others t apart))
      ] refl (down t)

  -- it had some
  pub some_counted : (xs rest : Said O) (x : Tagged (ℕ × O)) (to : ℕ) (ns : List ℕ) → AreCounted xs ns → said_at xs to ≡ x ∷ rest → 0 < get_or ns to 0
  some_counted xs rest x to ns counted first = let all : many xs to ≡ suc (length rest) = ap length first in omega (arith, counted to, all)

  lightened_many : (g : ℕ) (xs : Said O) (t : ℕ) → many (lightened g xs) t ≡ many xs t
  lightened_many g [] t = refl
  lightened_many g (x ∷ xs) t = first_many (x.0, _) (lightened g xs) t ∙ ap (λ n. cond (x.0.0 == t) (n + 1) n) (lightened_many g xs t) ∙ sym (first_many x xs t)

  -- a commit leaves as many
  pub counted_lightened : (g : ℕ) (xs ys : Said O) (ns : List ℕ) → ys ≡ lightened g xs → AreCounted xs ns → AreCounted ys ns
  counted_lightened g xs ys ns is counted t = counted t ∙ sym (lightened_many g xs t) ∙ ap (λ zs. many zs t) (sym is)

  -- a channel has none just where its count is 0
  pub none_counted : (xs : Said O) (ns : List ℕ) → AreCounted xs ns → (t : ℕ) → (get_or ns t 0 == 0) ≡ is_empty (said_at xs t)
  none_counted xs ns counted t = ap (λ n. n == 0) (counted t) ∙ none_of (said_at xs t)

  pub none_ready : (xs : Said O) (ns : List ℕ) (t : ℕ) → AreCounted xs ns → get_or ns t 0 ≡ 0 → is_ready xs t ≡ false
  none_ready xs ns t counted none = ready_is xs t ∙ ap (λ ys. not (is_empty (released ys))) (nil_from_length (said_at xs t) (sym (counted t) ∙ none))

  -- the first of a channel that is left stands behind the one that was taken
  pub ready_later : (to i : ℕ) (xs : Said O) → i ≡ prefix_len (other to) xs → is_ready (drop i (remove xs i)) to ≡ is_ready (remove xs i) to
  ready_later to zero [] is = refl
  ready_later to (suc i) [] is = absurd (omega (arith, is))
  ready_later to zero (x ∷ xs) is = refl
  ready_later to (suc i) (x ∷ xs) is =
      elim (x.0.0 == to) as (λ b. suc i ≡ cond (not b) (1 + prefix_len (other to) xs) 0 → is_ready (drop i (remove xs i)) to ≡ cond b (is_empty x.1) (is_ready (remove xs i) to)) [
        | true ↦ λ first. absurd (omega (arith, first))
        | false ↦ λ later. ready_later to i xs (omega (arith, later))
      ] is

  -- ---- a failure counts what it takes away

  abbrev pub left_to_count : ℕ → Said O → Said O → List ℕ → ℕ → Type 0
  left_to_count g all rest ns t = get_or ns t 0 + many (not_dropped g rest) t ≡ many (not_dropped g all) t + many rest t

  module _ (g : ℕ) (all rest : Said O) (x : Tagged (ℕ × O)) (to : ℕ) (same : to ≡ x.0.0) (old : List ℕ) (t : ℕ) (left : left_to_count g all (x ∷ rest) old t) where
    fewer_many : many (not_dropped g rest) t ≤ many rest t
    fewer_many = fewer_at rest where
      fewer_at : (ys : Said O) → many (not_dropped g ys) t ≤ many ys t
      fewer_at [] = omega arith
      fewer_at (y ∷ ys) =
          let later = fewer_at ys in
          let one = first_many y ys t in
          elim (has g y.1) as (λ b. many (cond (not b) (y ∷ not_dropped g ys) (not_dropped g ys)) t ≤ many (y ∷ ys) t) [
            | true ↦ elim (y.0.0 == t) as (λ c. many (y ∷ ys) t ≡ cond c (many ys t + 1) (many ys t) → many (not_dropped g ys) t ≤ many (y ∷ ys) t) [
              | true ↦ λ is. omega (arith, is, later)
              | false ↦ λ is. omega (arith, is, later)
            ] one
            | false ↦ elim (y.0.0 == t) as (λ c. many (y ∷ ys) t ≡ cond c (many ys t + 1) (many ys t) → many (y ∷ not_dropped g ys) t ≡ cond c (many (not_dropped g ys) t + 1) (many (not_dropped g ys) t) → many (y ∷ not_dropped g ys) t ≤ many (y ∷ ys) t) [
              | true ↦ λ is was. omega (arith, is, was, later)
              | false ↦ λ is was. omega (arith, is, was, later)
            ] one (first_many y (not_dropped g ys) t)
          ]

    -- it is counted still
    pub some_left : has g x.1 ≡ true → t ≡ x.0.0 → 0 < get_or old t 0
    some_left rests here =
        let was : get_or old t 0 + many (not_dropped g rest) t ≡ many (not_dropped g all) t + many (x ∷ rest) t =
        ap (λ b. get_or old t 0 + many (cond (not b) (x ∷ not_dropped g rest) (not_dropped g rest)) t) (sym rests) ∙ left in
        let fewer = fewer_many in
        elim (x.0.0 == t) as (λ c. (x.0.0 == t) ≡ c → many (x ∷ rest) t ≡ cond c (many rest t + 1) (many rest t) → 0 < get_or old t 0) [
          | true ↦ λ _ more. omega (arith, was, more, fewer)
          | false ↦ λ apart _. absurd (eqb-false x.0.0 t apart (sym here))
        ] refl (first_many x rest t)
