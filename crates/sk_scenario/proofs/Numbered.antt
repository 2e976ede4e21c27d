-- Digits that are read one by one at the front of a text, up to the end of its line.
use Rattle.sk_scenario.proofs.Names.{◌≡◌, ◌≤◌, ◌<◌, ◌+◌, ◌*◌, ◌-◌, ◌^◌, ℕ, List, [], ◌∷◌, ◌++◌, ◌∙◌, length, Ok, refl, ap, sym, arith, true, ltb, list_all}
use Rattle.sk_scenario.proofs.Names.{append_assoc, lt-ltb, le-leb, IsWord, bare_word, EndsLine, digit_value, digit_value_digit}
use Rattle.sk_scenario.proofs.Glances.{one_said}
use Rattle.sk_scenario.proofs.Names.{all_ascii_digits, digits_value, digits_value_after, tells_all_ascii_digits, few, positive, one_of}

-- these digits stand at the front of a text, with this behind them, and say this number
pub record AreRead (text rest : List ℕ) (n : ℕ) : Type 0 where
  pub digits : List ℕ
  pub cut : text ≡ digits ++ rest
  pub decimal : all_ascii_digits digits ≡ true
  pub value : digits_value 10 digits ≡ n

said : (d n : ℕ) → 48 ≤ d → d ≤ 57 → digits_value_after 10 n (d ∷ []) ≡ n * 10 + (d - 48)
said d n low high =
    let there = digit_value_digit d (low, high) in
    let is : digit_value d ≡ d - 48 = omega (arith, there) in
    ap (λ (k : ℕ). n * 10 + k) is

says : (ds : List ℕ) (n : ℕ) → 0 < length ds → all_ascii_digits ds ≡ true → digits_value 10 ds ≡ n → 1 ≤ n → n < 2 ^ 63 → positive ds ≡ Ok n
says ds n some h value low small =
    rw (few ds n some h value small, le-leb 1 n low, le-leb n 9223372036854775807 (omega arith)) refl

value_more : (ds : List ℕ) (n d : ℕ) → digits_value_after 10 n (ds ++ d ∷ []) ≡ digits_value_after 10 (digits_value_after 10 n ds) (d ∷ [])
value_more [] n d = refl
value_more (c ∷ cs) n d = value_more cs _ d

digits_more : (ds : List ℕ) (d : ℕ) → all_ascii_digits ds ≡ true → 48 ≤ d → d ≤ 57 → all_ascii_digits (ds ++ d ∷ []) ≡ true
digits_more [] d h low high = tells_all_ascii_digits.more d [] (low, high) refl
digits_more (c ∷ cs) d h low high =
    let t = tells_all_ascii_digits.parts c cs h in
    tells_all_ascii_digits.more c (cs ++ d ∷ []) t.0 (digits_more cs d t.1 low high)

pub none_read : (text : List ℕ) → AreRead text text 0
none_read text = record { digits = []; cut = refl; decimal = refl; value = refl }

pub one_more : (text rest tail : List ℕ) (n d : ℕ) → AreRead text rest n → rest ≡ d ∷ tail → 48 ≤ d → d ≤ 57 → AreRead text tail (n * 10 + (d - 48))
one_more text rest tail n d r is low high = record {
  digits = r.digits ++ d ∷ [];
  cut = r.cut ∙ ap (λ (l : List ℕ). r.digits ++ l) is ∙ sym (append_assoc r.digits (d ∷ []) tail);
  decimal = digits_more r.digits d r.decimal low high;
  value = value_more r.digits 0 d ∙ ap (λ (k : ℕ). digits_value_after 10 k (d ∷ [])) r.value ∙ said d n low high;
}

bare : (ds : List ℕ) → all_ascii_digits ds ≡ true → list_all (ltb 35) ds ≡ true
bare [] h = refl
bare (d ∷ ds) h = let t = tells_all_ascii_digits.parts d ds h in rw (lt-ltb 35 d (omega (arith, t.0.0)), bare ds t.1) refl

digits_word : (ds : List ℕ) → all_ascii_digits ds ≡ true → 0 < length ds → IsWord ds
digits_word [] h some = absurd (omega (arith, some))
digits_word (d ∷ ds) h some = bare_word (d ∷ ds) (bare (d ∷ ds) h)

some_digit : (ds : List ℕ) (n : ℕ) → digits_value 10 ds ≡ n → 1 ≤ n → 0 < length ds
some_digit [] n value low = absurd (omega (arith, value, low))
some_digit (d ∷ ds) n value low = omega arith

pub ends_number : (text rest behind : List ℕ) (n : ℕ) → AreRead text rest n → rest ≡ 10 ∷ behind → 1 ≤ n → n < 2 ^ 63 → EndsLine (one_of positive) text n behind
ends_number text rest behind n r is low small =
    let some = some_digit r.digits n r.value low in
    let word = digits_word r.digits r.decimal some in
    (r.digits, [], r.cut ∙ ap (λ (l : List ℕ). r.digits ++ l) is, (word, tt), one_said positive r.digits n word (says r.digits n some r.decimal r.value low small))
