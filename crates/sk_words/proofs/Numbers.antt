-- A word that `parse` of std reads is a number, and no other word is: from what std says of `parse`.
use Rattle.sk_words.proofs.Names.{◌≡◌, ◌≢◌, ℕ, zero, suc, ◌+◌, ◌^◌, ◌<◌, List, [], ◌∷◌, true, false, ltb, eqb, Some}
use Rattle.sk_words.proofs.Names.{None, Result, Ok, Err, length, drop, get_or, refl, arith, inl, inr, ◌⊎◌, ℤ, pos}
use Rattle.sk_words.proofs.Names.{neg_ℤ, IsUtf8, OkIff, IsAscii, all_ascii_digits, digits_value, ParsesSigned}
use Rattle.sk_words.proofs.Names.{result_ok, starts_with, w64, IsNumeralModel, numerals_by_value}
use Rattle.sk_words.proofs.Names.{tells_all_ascii_digits, parse_signed_minus, parse_signed_plain, IsAscii-from_digits}
use Rattle.sk_words.proofs.Names.{IsUtf8-from_ascii, eqb-true, eqb-false, ltb-true, lt-ltb, digits, below, wrong}
use Rattle.sk_words.proofs.Names.{integer, SaysSome}

pub own : IsNumeralModel (λ ds. all_ascii_digits ds ≡ true) (digits_value 10)
own = numerals_by_value (λ ds. all_ascii_digits ds ≡ true) tells_all_ascii_digits

pub record IsNumber (ds : List ℕ) : Type 0 where
  pub decimal : all_ascii_digits ds ≡ true
  pub some : 0 < length ds
  pub says : digits ds ≡ Some (digits_value 10 ds)

-- what a word's digits say
pub digits_cases : (ds : List ℕ) → (digits ds ≡ None) ⊎ IsNumber ds
digits_cases [] = inl refl
digits_cases (d ∷ ds) =
    elim (all_ascii_digits (d ∷ ds)) as (λ b. all_ascii_digits (d ∷ ds) ≡ b → (digits (d ∷ ds) ≡ None) ⊎ IsNumber (d ∷ ds)) [
      | true ↦ λ e. inr (record { decimal = e; some = omega arith; says = rw e refl })
      | false ↦ λ e. inl (rw e refl)
    ] refl

pub number_is : (ds : List ℕ) → all_ascii_digits ds ≡ true → 0 < length ds → digits ds ≡ Some (digits_value 10 ds)
number_is [] h some = absurd (omega arith)
number_is (d ∷ ds) h some = rw h refl

-- `parse` reads what the definition does
pub agrees : {E : Type 0} (ds : List ℕ) (limit : ℕ) (number : ℕ → ℤ) (r : Result ℤ E) → OkIff r ((all_ascii_digits ds ≡ true) × (0 < length ds) × (digits_value 10 ds < limit)) (number (digits_value 10 ds)) → SaysSome (result_ok r) (below limit number (digits ds))
agrees ds limit number (Ok x) h = rw (number_is ds h.0.0 h.0.1, lt-ltb (digits_value 10 ds) limit h.0.2, h.1) refl
agrees ds limit number (Err e) h =
    elim (digits_cases ds) [
      | inl none ↦ rw none refl
      | inr n ↦
          elim (ltb (digits_value 10 ds) limit) as (λ b. ltb (digits_value 10 ds) limit ≡ b → below limit number (digits ds) ≡ wrong) [
            | true ↦ λ e. absurd (h (n.decimal, n.some, ltb-true (digits_value 10 ds) limit e))
            | false ↦ λ e. rw (n.says, e) refl
          ] refl
    ]

-- no number is anything but text
is_text : (ds : List ℕ) → all_ascii_digits ds ≡ true → IsAscii ds
is_text ds h = IsAscii-from_digits ds (own.to ds h)

minus_text : (w : List ℕ) → get_or w 0 0 ≡ 45 → IsAscii (drop 1 w) → IsAscii w
minus_text [] e h zero = omega arith
minus_text [] e h (suc i) = omega arith
minus_text (b ∷ ds) e h zero = omega arith
minus_text (b ∷ ds) e h (suc i) = h i

pub no_text : (w : List ℕ) → (IsUtf8 w → ⊥) → integer w ≡ wrong
no_text w h =
    elim (eqb (get_or w 0 0) 45) as (λ b. eqb (get_or w 0 0) 45 ≡ b → integer w ≡ wrong) [
      | true ↦ λ e. elim (digits_cases (drop 1 w)) [
        | inl none ↦ rw (e, none) refl
        | inr n ↦ absurd (h (IsUtf8-from_ascii w (minus_text w (eqb-true (get_or w 0 0) 45 e) (is_text (drop 1 w) n.decimal))))
      ]
      | false ↦ λ e. elim (digits_cases w) [
        | inl none ↦ rw (e, none) refl
        | inr n ↦ absurd (h (IsUtf8-from_ascii w (is_text w n.decimal)))
      ]
    ] refl

weaker : {E : Type 0} {P Q : Type 0} (r : Result ℤ E) (x : ℤ) → (P → Q) → (Q → P) → OkIff r P x → OkIff r Q x
weaker (Ok y) x to from h = (to h.0, h.1)
weaker (Err e) x to from h = λ q. h (from q)

pub parsed : {E : Type 0} (w : List ℕ) (r : Result ℤ E) → ParsesSigned w64 10 w r → get_or w 0 0 ≢ 43 → SaysSome (result_ok r) (integer w)
parsed w r h plus =
    elim (eqb (get_or w 0 0) 45) as (λ b. eqb (get_or w 0 0) 45 ≡ b → SaysSome (result_ok r) (integer w)) [
      | true ↦ λ e. rw e (agrees (drop 1 w) (2 ^ 63 + 1) (λ n. neg_ℤ (pos n)) r (weaker r (neg_ℤ (pos (digits_value 10 (drop 1 w)))) (λ p. (p.0, p.1, omega (arith, p.2))) (λ p. (p.0, p.1, omega (arith, p.2))) (parse_signed_minus own w64 w r h (eqb-true (get_or w 0 0) 45 e))))
      | false ↦ λ e. rw e (agrees w (2 ^ 63) pos r (parse_signed_plain own w64 w r h plus (eqb-false (get_or w 0 0) 45 e)))
    ] refl

pub no_plus : (w : List ℕ) → starts_with eqb w (43 ∷ []) ≡ false → get_or w 0 0 ≢ 43
no_plus [] h e = absurd (omega arith)
no_plus (b ∷ bs) h e = let said : true ≡ false = rw e at h in absurd cc

-- digits are no minus, and say their number
pub few : (w : List ℕ) (n : ℕ) → 0 < length w → all_ascii_digits w ≡ true → digits_value 10 w ≡ n → n < 2 ^ 63 → integer w ≡ Ok (pos n)
few [] n some h value small = absurd (omega (arith, some))
few (d ∷ ds) n some h value small =
    elim (eqb d 45) as (λ b. eqb d 45 ≡ b → integer (d ∷ ds) ≡ Ok (pos n)) [
      | true ↦ λ e. let bad : false ≡ true = rw (eqb-true d 45 e) at h in absurd cc
      | false ↦ λ e. rw (e, number_is (d ∷ ds) h some, value, lt-ltb n (2 ^ 63) small) refl
    ] refl
