-- A printed number is read again, and is a word: from what std says of decimal digits.
use Rattle.sk_words.proofs.Names.{◌≡◌, ℕ, ◌^◌, ◌<◌, ◌≤◌, List, [], ◌∷◌, length, get_or, true, false, eqb, ltb, Some, Ok}
use Rattle.sk_words.proofs.Names.{refl, ap, ◌∙◌, arith, pos, decimal, list_any, list_all, all_ascii_digits, lt-ltb}
use Rattle.sk_words.proofs.Names.{le-leb, ne_eqb, tells_all_ascii_digits, digits_decimal, digits_value-decimal}
use Rattle.sk_words.proofs.Names.{decimal_nonempty, digits, integer, natural, positive, index, IsWord, is_bare_word}
use Rattle.sk_words.proofs.Numbers.{own, number_is}
use Rattle.sk_words.proofs.WordsAgain.{bare_word}

-- what is known of decimal digits
record Digits (ds : List ℕ) : Type 0 where
  bare : list_all (ltb 35) ds ≡ true
  no_dot : list_any (λ b. eqb b 46) ds ≡ false

decimal_digits : (ds : List ℕ) → all_ascii_digits ds ≡ true → Digits ds
decimal_digits [] h = record { bare = refl; no_dot = refl }
decimal_digits (d ∷ ds) h =
    let t = tells_all_ascii_digits.parts d ds h in
    let rest = decimal_digits ds t.1 in
    record {
      bare = rw (lt-ltb 35 d (omega (arith, t.0.0)), rest.bare) refl;
      no_dot = rw (ne_eqb d 46 (λ e. omega (arith, t.0.0)), rest.no_dot) refl;
    }

no_minus : (ds : List ℕ) → all_ascii_digits ds ≡ true → 0 < length ds → eqb (get_or ds 0 0) 45 ≡ false
no_minus [] h some = absurd (omega arith)
no_minus (d ∷ ds) h some = let t = tells_all_ascii_digits.parts d ds h in ne_eqb d 45 (λ e. omega (arith, t.0.0))

are_digits : (n : ℕ) → n < 2 ^ 64 → all_ascii_digits (decimal n) ≡ true
are_digits n lt = digits_decimal own n lt

pub no_dot : (n : ℕ) → n < 2 ^ 64 → list_any (λ b. eqb b 46) (decimal n) ≡ false
no_dot n lt = (decimal_digits (decimal n) (are_digits n lt)).no_dot

-- digits make a bare word where there are any
some_bare : (w : List ℕ) → 0 < length w → list_all (ltb 35) w ≡ true → is_bare_word w ≡ true
some_bare [] some h = absurd (omega arith)
some_bare (b ∷ bs) some h = h

pub number_bare : (n : ℕ) → n < 2 ^ 64 → is_bare_word (decimal n) ≡ true
number_bare n lt = some_bare (decimal n) (decimal_nonempty n lt) (decimal_digits (decimal n) (are_digits n lt)).bare

pub number_word : (n : ℕ) → n < 2 ^ 64 → IsWord (decimal n)
number_word n lt = bare_word (decimal n) (number_bare n lt)

integer_again : (n : ℕ) → n < 2 ^ 63 → integer (decimal n) ≡ Ok (pos n)
integer_again n lt =
    let some = decimal_nonempty n (omega arith) in
    let are = are_digits n (omega arith) in
    let says : digits (decimal n) ≡ Some n = number_is (decimal n) are some ∙ ap (λ (x : ℕ). Some x) (digits_value-decimal own n (omega arith)) in
    rw (no_minus (decimal n) are some, says, lt-ltb n (2 ^ 63) lt) refl

pub natural_again : (n : ℕ) → n < 2 ^ 63 → natural (decimal n) ≡ Ok n
natural_again n lt = rw (integer_again n lt, le-leb 0 n (omega arith), le-leb n 9223372036854775807 (omega arith)) refl

pub positive_again : (n : ℕ) → 1 ≤ n → n < 2 ^ 63 → positive (decimal n) ≡ Ok n
positive_again n low lt = rw (integer_again n lt, le-leb 1 n low, le-leb n 9223372036854775807 (omega arith)) refl

pub index_again : (n : ℕ) → 1 ≤ n → n ≤ 65535 → index (decimal n) ≡ Ok n
index_again n low high = rw (integer_again n (omega arith), le-leb 1 n low, le-leb n 65535 high) refl
