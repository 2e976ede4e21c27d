-- Digits with the top bit set, and the head that is made of them.
use Rattle.sk_log.proofs.Names.{◌≡◌, ℕ, zero, suc, ◌+◌, ◌-◌, ◌*◌, ◌/◌, ◌%◌, ◌<◌, ◌≤◌, ◌^◌, List, [], ◌∷◌, ◌++◌, length}
use Rattle.sk_log.proofs.Names.{sym, ◌∙◌, ap, arith, length-append, sum, sum_by-cons, sum_by-append, front, head}
use Rattle.std.proofs.Common.{slice_index, refl}
use Rattle.sk_log.specs.Frame.{digits, head_of}

pub length-digits : (n x : ℕ) → length (digits n x) ≡ n
unfolding digits
length-digits zero x = refl
length-digits (suc n) x = ap suc (length-digits n (x / 128))

abbrev pub value : List ℕ → ℕ
value [] = 0
value (d ∷ ds) = (d - 128) + 128 * value ds

-- the first number that n digits can't say
unfoldable pub limit : ℕ → ℕ
limit zero = 1
limit (suc n) = 128 * limit n

pub value-digits : (n x : ℕ) → x < limit n → value (digits n x) ≡ x
unfolding digits limit
value-digits zero x lt = omega arith
value-digits (suc n) x lt =
    let rest = value-digits n (x / 128) (omega arith) in
    omega (arith, rest)

pub limit-two : limit 2 ≡ 2 ^ 14
unfolding limit
limit-two = refl

pub limit-four : limit 4 ≡ 2 ^ 28
unfolding limit
limit-four = refl

pub limit-six : limit 6 ≡ 2 ^ 42
unfolding limit
limit-six = refl

pub limit-eight : limit 8 ≡ 2 ^ 56
unfolding limit
limit-eight = refl

pub same_digits : (n x y : ℕ) → x < limit n → y < limit n → digits n x ≡ digits n y → x ≡ y
same_digits n x y fits fits' same = sym (value-digits n x fits) ∙ ap value same ∙ value-digits n y fits'

sum-digits : (n x : ℕ) → sum (digits n x) ≤ 255 * n
unfolding digits
sum-digits zero x = omega arith
sum-digits (suc n) x = omega (arith, sum_by-cons (λ y. y) (128 + x % 128) (digits n (x / 128)), sum-digits n (x / 128))

module _ (segment number len total : ℕ) where
  pub length-front : length (front segment number len total) ≡ 22
  length-front =
      omega (
        arith,
        length-append (digits 4 segment) (digits 8 number ++ (digits 4 len ++ digits 6 total)),
        length-append (digits 8 number) (digits 4 len ++ digits 6 total),
        length-append (digits 4 len) (digits 6 total),
        length-digits 4 segment,
        length-digits 8 number,
        length-digits 4 len,
        length-digits 6 total,
      )

  pub sum-front : sum (front segment number len total) ≤ 5610
  sum-front =
      omega (
        arith,
        sum_by-append (λ y. y) (digits 4 segment) (digits 8 number ++ (digits 4 len ++ digits 6 total)),
        sum_by-append (λ y. y) (digits 8 number) (digits 4 len ++ digits 6 total),
        sum_by-append (λ y. y) (digits 4 len) (digits 6 total),
        sum-digits 4 segment,
        sum-digits 8 number,
        sum-digits 4 len,
        sum-digits 6 total,
      )

  pub length-head_of : length (head_of segment number len total) ≡ 24
  unfolding head_of
  length-head_of =
      let bytes = front segment number len total in
      omega (arith, length-append bytes (digits 2 (5632 - sum bytes)), length-front, length-digits 2 (5632 - sum bytes))

  pub first-head_of : 128 ≤ slice_index (head_of segment number len total) 0
  unfolding head_of digits
  first-head_of = let at : slice_index (head_of segment number len total) 0 ≡ 128 + segment % 128 = refl in omega (arith, at)

pub length-head : (segment number : ℕ) (p : List ℕ) → length (head segment number p) ≡ 24
length-head segment number p = length-head_of segment number (length p) (sum p)

pub first-head : (segment number : ℕ) (p : List ℕ) → 128 ≤ slice_index (head segment number p) 0
first-head segment number p = first-head_of segment number (length p) (sum p)
