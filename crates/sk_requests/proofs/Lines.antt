-- Lines at the front of bytes, and the numbers in them.
use Rattle.sk_requests.proofs.Names.{◌≡◌, ◌≢◌, ℕ, zero, suc, ◌+◌, ◌-◌, ◌*◌, ◌%◌, ◌<◌, ◌≤◌, ◌^◌, List, [], ◌∷◌, ◌++◌}
use Rattle.sk_requests.proofs.Names.{length, slice_index, take, drop, decimal, refl, sym, ◌∙◌, ap, inl, inr, arith}
use Rattle.sk_requests.proofs.Names.{length-append, take_at, drop_at, get_or_at, get_or_append_left, get_or-append-add}
use Rattle.sk_requests.proofs.Names.{append_assoc, append_cancel_right, take_all, take_more, cases_lt, decimal_by_steps}
use Rattle.sk_requests.proofs.Names.{decimal_injective, length-decimal-le, IsLine, head, value_from, NoHead}
use Rattle.sk_requests.specs.Lines.{said}

-- Two lists that begin with parts of equal length are equal part by part.
pub same_parts : (n : ℕ) (a b c d : List ℕ) → length a ≡ n → length b ≡ n → a ++ c ≡ b ++ d → (a ≡ b) × (c ≡ d)
same_parts n a b c d len len' same = (sym (take_at a c n len) ∙ ap (take n) same ∙ take_at b d n len', sym (drop_at a c n len) ∙ ap (drop n) same ∙ drop_at b d n len')

-- A line ends no sooner than its bytes do.
pub ends_behind : (line rest l more : List ℕ) → IsLine line → line ++ rest ≡ l ++ 10 ∷ more → length line ≤ length l
ends_behind line rest l more one is =
    elim (cases_lt (length l) (length line)) [
      | inl low ↦ absurd (one (length l) low (sym (get_or_append_left line rest 0 (length l) low) ∙ ap (λ (xs : List ℕ). slice_index xs (length l)) is ∙ get_or_at l 10 more 0 (length l) refl))
      | inr high ↦ high
    ]

pub same_line : (a b x y : List ℕ) → IsLine a → IsLine b → a ++ 10 ∷ x ≡ b ++ 10 ∷ y → (a ≡ b) × (x ≡ y)
same_line a b x y one two same =
    let len : length a ≡ length b = omega (arith, ends_behind a (10 ∷ x) b y one same, ends_behind b (10 ∷ y) a x two (sym same)) in
    let parts = same_parts (length b) a b (10 ∷ x) (10 ∷ y) len refl same in
    (parts.0, ap (drop 1) parts.1)

pub line-append : (a b : List ℕ) → IsLine a → IsLine b → IsLine (a ++ b)
line-append a b one two i lt e =
    elim (cases_lt i (length a)) [
      | inl low ↦ one i low (sym (get_or_append_left a b 0 i low) ∙ e)
      | inr high ↦
          let at : length a + (i - length a) ≡ i = omega (arith, high) in
          two (i - length a) (omega (arith, lt, high, length-append a b)) (sym (get_or-append-add a b (i - length a) 0) ∙ ap (slice_index (a ++ b)) at ∙ e)
    ]

pub line-one : (d : ℕ) → d ≢ 10 → IsLine (d ∷ [])
line-one d ne zero lt e = ne e
line-one d ne (suc i) lt e = absurd (omega (arith, lt))

line-decimal : (n : ℕ) → n < 2 ^ 64 → IsLine (decimal n)
line-decimal =
    decimal_by_steps (λ n ds. IsLine ds) (λ n few. line-one (48 + n) (λ e. omega (arith, e)))
    (λ n ds high is. line-append ds ((48 + n % 10) ∷ []) is (line-one (48 + n % 10) (λ e. omega (arith, e))))

pub line-said : (mark n : ℕ) → mark ≢ 10 → n < 2 ^ 32 → IsLine (said mark n)
unfolding said
line-said mark n ne small =
    line-append (mark ∷ []) (decimal n ++ 13 ∷ []) (line-one mark ne)
    (line-append (decimal n) (13 ∷ []) (line-decimal n (omega (arith, small))) (line-one 13 (λ e. omega (arith, e))))

pub length-said : (mark n : ℕ) → n < 2 ^ 32 → length (said mark n) ≤ 12
unfolding said
length-said mark n small = omega (arith, length-append (decimal n) (13 ∷ []), length-decimal-le 10 n (omega arith) (omega (arith, small)) (omega (arith, small)))

pub first_head : (mark n : ℕ) (x : List ℕ) → slice_index (head mark n ++ x) 0 ≡ mark
unfolding said
first_head mark n x = refl

-- A line says one number.
pub same_said : (mark m n : ℕ) → m < 2 ^ 32 → n < 2 ^ 32 → said mark m ≡ said mark n → m ≡ n
unfolding said
same_said mark m n small small' same =
    decimal_injective m n (omega (arith, small)) (omega (arith, small')) (append_cancel_right (decimal m) (decimal n) (13 ∷ []) (ap (drop 1) same))

pub head_line : (mark n : ℕ) (x : List ℕ) → head mark n ++ x ≡ said mark n ++ 10 ∷ x
head_line mark n x = append_assoc (said mark n) (10 ∷ []) x

-- its bytes
pub head_parts : (mark n : ℕ) → head mark n ≡ mark ∷ (decimal n ++ 13 ∷ 10 ∷ [])
unfolding said
head_parts mark n = λ i. mark ∷ append_assoc (decimal n) (13 ∷ []) (10 ∷ []) i

pub same_head : (mark m n : ℕ) (x y : List ℕ) → mark ≢ 10 → m < 2 ^ 32 → n < 2 ^ 32 → head mark m ++ x ≡ head mark n ++ y → (m ≡ n) × (x ≡ y)
same_head mark m n x y ne small small' same =
    let both = same_line (said mark m) (said mark n) x y (line-said mark m ne small) (line-said mark n ne small') (sym (head_line mark m x) ∙ same ∙ head_line mark n y) in
    (same_said mark m n small small' both.0, both.1)

-- A line that says no number begins none.
pub other_head : (mark limit : ℕ) (line more : List ℕ) → mark ≢ 10 → limit < 2 ^ 32 → IsLine line → ((n : ℕ) → n ≤ limit → line ≡ said mark n → ⊥) → NoHead mark limit (line ++ 10 ∷ more)
other_head mark limit line more ne low one none n later behind small is =
    none n small (same_line line (said mark n) (more ++ later) behind one (line-said mark n ne (omega (arith, small, low)))
    (sym (append_assoc line (10 ∷ more) later) ∙ is ∙ head_line mark n behind)).0

-- Nor does one that is longer than each of them.
pub long_head : (mark limit : ℕ) (line rest : List ℕ) → limit < 2 ^ 32 → IsLine line → 16 < length line → NoHead mark limit (line ++ rest)
long_head mark limit line rest low one long n later behind small is =
    omega (
      arith,
      long,
      length-said mark n (omega (arith, small, low)),
      ends_behind line (rest ++ later) (said mark n) behind one (sym (append_assoc line rest later) ∙ is ∙ head_line mark n behind),
    )

-- The digits of a number say it.
pub value_from-le : (n : ℕ) (ds : List ℕ) → n ≤ value_from n ds
value_from-le n [] = omega arith
value_from-le n (d ∷ ds) = omega (arith, value_from-le (n * 10 + (d - 48)) ds)

value_push : (n : ℕ) (ds : List ℕ) (d : ℕ) → value_from n (ds ++ d ∷ []) ≡ value_from n ds * 10 + (d - 48)
value_push n [] d = refl
value_push n (e ∷ ds) d = value_push (n * 10 + (e - 48)) ds d

pub value-decimal : (n : ℕ) → n < 2 ^ 64 → value_from 0 (decimal n) ≡ n
value-decimal =
    decimal_by_steps (λ n ds. value_from 0 ds ≡ n) (λ n few. omega arith)
    (λ n ds high is. omega (arith, value_push 0 ds (48 + n % 10), is))

-- the digits of a line that says a number
pub digits_said : (mark n last : ℕ) (line : List ℕ) → line ≡ said mark n → last + 1 ≡ length line → take (last - 1) (drop 1 line) ≡ decimal n
unfolding said
digits_said mark n last line is len =
    let long : last - 1 ≡ length (decimal n) = omega (arith, len, ap length is, length-append (decimal n) (13 ∷ [])) in
    ap (λ xs. take (last - 1) (drop 1 xs)) is ∙ take_at (decimal n) (13 ∷ []) (last - 1) (sym long)

last_part : (bytes : List ℕ) (n : ℕ) → n + 1 ≡ length bytes → bytes ≡ take n bytes ++ slice_index bytes n ∷ []
last_part bytes n len = sym (take_all (n + 1) bytes (omega (arith, len))) ∙ take_more bytes n 0 (omega (arith, len))

-- a line is its first byte, what is between, and its last byte
pub by_parts : (line : List ℕ) (last : ℕ) → 2 ≤ length line → last + 1 ≡ length line → line ≡ slice_index line 0 ∷ (take (last - 1) (drop 1 line) ++ slice_index line last ∷ [])
by_parts [] last some len = absurd (omega (arith, some))
by_parts (b ∷ bytes) zero some len = absurd (omega (arith, some, len))
by_parts (b ∷ bytes) (suc n) some len =
    let same : n ≡ suc n - 1 = omega arith in
    let parts = last_part bytes n (omega (arith, len)) ∙ ap (λ k. take k bytes ++ slice_index bytes n ∷ []) same in
    λ i. b ∷ parts i

-- a line of these parts says the number
pub says : (mark n last : ℕ) (line : List ℕ) → 2 ≤ length line → last + 1 ≡ length line → slice_index line 0 ≡ mark → slice_index line last ≡ 13 → decimal n ≡ take (last - 1) (drop 1 line) → line ≡ said mark n
unfolding said
says mark n last line some len first behind digits =
    let middle = sym digits in
    by_parts line last some len ∙ (λ i. first i ∷ (middle i ++ behind i ∷ []))
