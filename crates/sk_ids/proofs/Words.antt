-- Cells as numbers, eight at a time: the first that differ tell how all compare.
use Rattle.sk_ids.proofs.Names.{◌≡◌, ◌≢◌, ℕ, zero, suc, ◌+◌, ◌*◌, ◌<◌, ◌≤◌, List, [], ◌∷◌, length, drop, arith, refl}
use Rattle.sk_ids.proofs.Names.{sym, ◌∙◌, ap, subst, get_or-drop, drop-cons, drop_of_length-le, Fits, w8, Equal}
use Rattle.sk_ids.proofs.Names.{Greater, nat_cmp, ordering_then, MatchOrdering, ranks, slice_cmp, word_at}
use Rattle.std.proofs.Common.{get_or, length-drop, drop-drop, Ordering, Less}

-- each is a byte
abbrev pub Bytes : List ℕ → Type 0
Bytes xs = (k : ℕ) → Fits w8 (get_or xs k 0)

is_Less : (x y : ℕ) (r : Ordering) → MatchOrdering r (x < y) (x ≡ y) (y < x) → x < y → r ≡ Less
is_Less x y Less h l = refl
is_Less x y Equal h l = let e : x ≡ y = h in absurd (omega arith)
is_Less x y Greater h l = let e : y < x = h in absurd (omega arith)

is_Equal : (x y : ℕ) (r : Ordering) → MatchOrdering r (x < y) (x ≡ y) (y < x) → x ≡ y → r ≡ Equal
is_Equal x y Less h l = let e : x < y = h in absurd (omega arith)
is_Equal x y Equal h l = refl
is_Equal x y Greater h l = let e : y < x = h in absurd (omega arith)

is_Greater : (x y : ℕ) (r : Ordering) → MatchOrdering r (x < y) (x ≡ y) (y < x) → y < x → r ≡ Greater
is_Greater x y Less h l = let e : x < y = h in absurd (omega arith)
is_Greater x y Equal h l = let e : x ≡ y = h in absurd (omega arith)
is_Greater x y Greater h l = refl

pub below : (x y : ℕ) → x < y → nat_cmp x y ≡ Less
below x y = is_Less x y (nat_cmp x y) (ranks x y)

pub above : (x y : ℕ) → y < x → nat_cmp x y ≡ Greater
above x y = is_Greater x y (nat_cmp x y) (ranks x y)

-- a list compares as equal with itself
pub level : (xs : List ℕ) → slice_cmp nat_cmp xs xs ≡ Equal
level [] = refl
level (x ∷ xs) = ap (λ r. ordering_then r (slice_cmp nat_cmp xs xs)) (is_Equal x x (nat_cmp x x) (ranks x x) refl) ∙ level xs

-- n digits in base 256, after a
abbrev spelt : ℕ → ℕ → List ℕ → ℕ
spelt zero a xs = a
spelt (suc n) a [] = a
spelt (suc n) a (x ∷ xs) = spelt n (a * 256 + x) xs

-- x and y were read from the first n bytes of two lists
pub record Tells (n x y : ℕ) (us vs : List ℕ) : Type 0 where
  pub apart : (x ≢ y) → slice_cmp nat_cmp us vs ≡ nat_cmp x y
  pub alike : x ≡ y → slice_cmp nat_cmp us vs ≡ slice_cmp nat_cmp (drop n us) (drop n vs)

rises : (n a b : ℕ) (us vs : List ℕ) → n ≤ length us → n ≤ length vs → Bytes us → a < b → spelt n a us < spelt n b vs
rises zero a b us vs p q h l = l
rises (suc n) a b [] vs p q h l = absurd (omega arith)
rises (suc n) a b (u ∷ us) [] p q h l = absurd (omega arith)
rises (suc n) a b (u ∷ us) (v ∷ vs) p q h l =
    let small : u < 256 = (h 0).fits in
    rises n (a * 256 + u) (b * 256 + v) us vs (omega arith) (omega arith) (λ k. h (suc k)) (omega arith)

tells : (n a : ℕ) (us vs : List ℕ) → n ≤ length us → n ≤ length vs → Bytes us → Bytes vs → Tells n (spelt n a us) (spelt n a vs) us vs
tells zero a us vs p q g h = record { apart = λ f. absurd (f refl); alike = λ _. refl }
tells (suc n) a [] vs p q g h = absurd (omega arith)
tells (suc n) a (u ∷ us) [] p q g h = absurd (omega arith)
tells (suc n) a (u ∷ us) (v ∷ vs) p q g h = by (tells n (a * 256 + u) us vs (omega arith) (omega arith) (λ k. g (suc k)) (λ k. h (suc k))) (nat_cmp u v) refl (ranks u v)
  where
    by : Tells n (spelt n (a * 256 + u) us) (spelt n (a * 256 + u) vs) us vs
        → (r : Ordering) → nat_cmp u v ≡ r → MatchOrdering r (u < v) (u ≡ v) (v < u) → Tells (suc n) (spelt n (a * 256 + u) us) (spelt n (a * 256 + v) vs) (u ∷ us) (v ∷ vs)
    by rest Less e l =
        let under : u < v = l in
        let t = rises n (a * 256 + u) (a * 256 + v) us vs (omega arith) (omega arith) (λ k. g (suc k)) (omega arith) in
        record { apart = λ _. ap (λ r. ordering_then r (slice_cmp nat_cmp us vs)) e ∙ sym (below _ _ t); alike = λ s. absurd (omega arith) }
    by rest Greater e l =
        let over : v < u = l in
        let t = rises n (a * 256 + v) (a * 256 + u) vs us (omega arith) (omega arith) (λ k. h (suc k)) (omega arith) in
        record { apart = λ _. ap (λ r. ordering_then r (slice_cmp nat_cmp us vs)) e ∙ sym (above _ _ t); alike = λ s. absurd (omega arith) }
    by rest Equal e l =
        let same : u ≡ v = l in
        let t = subst (λ z. Tells n (spelt n (a * 256 + u) us) (spelt n (a * 256 + z) vs) us vs) same rest in
        let heads = ap (λ r. ordering_then r (slice_cmp nat_cmp us vs)) e in
        record { apart = λ f. heads ∙ t.apart f; alike = λ s. heads ∙ t.alike s }

-- n digits from the place i + k on
abbrev read : ℕ → ℕ → List ℕ → ℕ → ℕ → ℕ
read zero a xs i k = a
read (suc n) a xs i k = read n (a * 256 + get_or xs (i + k) 0) xs i (suc k)

read_is : (n a : ℕ) (xs : List ℕ) (i k : ℕ) → i + k + n ≤ length xs → spelt n a (drop (i + k) xs) ≡ read n a xs i k
read_is zero a xs i k le = refl
read_is (suc n) a xs i k le =
    let next : suc (i + k) ≡ i + suc k = omega arith in
    ap (spelt (suc n) a) (drop-cons xs (i + k) 0 (omega arith))
    ∙ ap (λ m. spelt n (a * 256 + get_or xs (i + k) 0) (drop m xs)) next
    ∙ read_is n (a * 256 + get_or xs (i + k) 0) xs i (suc k) (omega arith)

word_is : (xs : List ℕ) (i : ℕ) → i + 8 ≤ length xs → word_at xs i ≡ spelt 8 0 (drop i xs)
word_is xs i le =
    let start : i ≡ i + 0 = omega arith in
    let here : get_or xs (i + 0) 0 ≡ get_or xs i 0 = ap (λ k. get_or xs k 0) (sym start) in
    omega (arith, here) ∙ sym (ap (λ m. spelt 8 0 (drop m xs)) start ∙ read_is 8 0 xs i 0 (omega arith))

module _ (xs ys : List ℕ) (bx : Bytes xs) (bs : Bytes ys) (i x y : ℕ) (x_in : i + 8 ≤ length xs) (y_in : i + 8 ≤ length ys) (x_is : x ≡ word_at xs i) (y_is : y ≡ word_at ys i) where
  words_tell : Tells 8 x y (drop i xs) (drop i ys)
  words_tell =
      let t = tells 8 0 (drop i xs) (drop i ys) (omega (arith, x_in, length-drop i xs)) (omega (arith, y_in, length-drop i ys))
      (λ k. subst (Fits w8) (sym (get_or-drop i xs k 0)) (bx (i + k))) (λ k. subst (Fits w8) (sym (get_or-drop i ys k 0)) (bs (i + k))) in
      let x_spelt : x ≡ spelt 8 0 (drop i xs) = x_is ∙ word_is xs i x_in in
      let y_spelt : y ≡ spelt 8 0 (drop i ys) = y_is ∙ word_is ys i y_in in
      subst (λ x. Tells 8 x y (drop i xs) (drop i ys)) (sym x_spelt) (subst (λ y. Tells 8 (spelt 8 0 (drop i xs)) y (drop i xs) (drop i ys)) (sym y_spelt) t)

  -- eight cells that differ tell how all from there on compare
  pub word_tells : (x ≢ y) → nat_cmp x y ≡ slice_cmp nat_cmp (drop i xs) (drop i ys)
  word_tells differ = sym (words_tell.apart differ)

  -- and behind those that don't the next ones do
  pub word_passes : x ≡ y → slice_cmp nat_cmp (drop (i + 8) xs) (drop (i + 8) ys) ≡ slice_cmp nat_cmp (drop i xs) (drop i ys)
  word_passes same = sym (words_tell.alike same ∙ (λ j. slice_cmp nat_cmp (drop-drop 8 i xs j) (drop-drop 8 i ys j)))

  -- the last eight tell in any case
  pub word_ends : length xs ≡ i + 8 → length ys ≡ i + 8 → nat_cmp x y ≡ slice_cmp nat_cmp (drop i xs) (drop i ys)
  word_ends x_all y_all = by (nat_cmp x y) (ranks x y) refl
    where
      by : (r : Ordering) → MatchOrdering r (x < y) (x ≡ y) (y < x) → nat_cmp x y ≡ r → nat_cmp x y ≡ slice_cmp nat_cmp (drop i xs) (drop i ys)
      by Less l e = (let under : x < y = l in word_tells (λ s. omega (arith, s, under)))
      by Greater l e = (let over : y < x = l in word_tells (λ s. omega (arith, s, over)))
      by Equal l e =
          let x_none : drop (i + 8) xs ≡ [] = drop_of_length-le xs (omega (arith, x_all)) in
          let y_none : drop (i + 8) ys ≡ [] = drop_of_length-le ys (omega (arith, y_all)) in
          e ∙ sym (λ j. slice_cmp nat_cmp (x_none j) (y_none j)) ∙ word_passes l
