-- Rows of numbers, the guesses that stand alone in them, and the notes of their keys.
use Rattle.sk_batched.proofs.Names.{◌≡◌, ℕ, ◌+◌, ◌<◌, ◌≤◌, ◌%◌, Bool, true, false, cond, not, ◌&&◌, ◌||◌, List, [], ◌∷◌}
use Rattle.sk_batched.proofs.Names.{◌++◌, length, map, Option, None, inl, inr, refl, sym, ◌∙◌, ap, arith, ◌==◌, filter}
use Rattle.sk_batched.proofs.Names.{true≢false, eqb-true, eq-eqb, ne_eqb, or_cases, false_from_ne_true, length-append}
use Rattle.sk_batched.proofs.Names.{Note, has, without, noted, cut, unwound, committed, Open, numbers, still_open}
use Rattle.sk_batched.proofs.Names.{not_struck, Merges, struck_with, alone, notes_by, tokens_of, AreInRow, or_right}

-- two numbers less than 128 apart have different keys
pub apart : (g h : ℕ) → g < h → h < g + 128 → (g % 128 == h % 128) ≡ false
apart g h less near = ne_eqb (g % 128) (h % 128) (λ same. omega (arith, same))

pub apart_too : (g h : ℕ) → g < h → h < g + 128 → (h % 128 == g % 128) ≡ false
apart_too g h less near = ne_eqb (h % 128) (g % 128) (λ same. omega (arith, same))

-- each of a row is no more than the last
pub at_most : (ns : List ℕ) (last g : ℕ) → AreInRow ns last → has g ns ≡ true → g ≤ last
at_most [] last g row here = absurd (true≢false (sym here))
at_most (n ∷ ns) last g row here = elim (or_cases (n == g) (has g ns) here) [
  | inl is ↦ let same = eqb-true n g is in omega (arith, same, row.0)
  | inr later ↦ at_most ns last g row.1 later
]

-- and more than what is before the row
pub above : (low : ℕ) (ns : List ℕ) (last g : ℕ) → low + length ns ≡ last → AreInRow ns last → has g ns ≡ true → low < g
above low [] last g from row here = absurd (true≢false (sym here))
above low (n ∷ ns) last g from row here = elim (or_cases (n == g) (has g ns) here) [
  | inl is ↦ let same = eqb-true n g is in omega (arith, same, row.0, from)
  | inr later ↦ let more = above n ns last g row.0 row.1 later in omega (arith, more, row.0, from)
]

pub not_again : (n : ℕ) (ns : List ℕ) (last : ℕ) → AreInRow (n ∷ ns) last → has n ns ≡ false
not_again n ns last row = false_from_ne_true (has n ns) (λ here. let more = above n ns last n row.0 row.1 here in omega (arith, more))

pub not_beyond : (ns : List ℕ) (last g : ℕ) → AreInRow ns last → last < g → has g ns ≡ false
not_beyond ns last g row beyond = false_from_ne_true (has g ns) (λ here. let less = at_most ns last g row here in omega (arith, less, beyond))

-- one more in the row
pub longer : (ns : List ℕ) (last n : ℕ) → AreInRow ns last → n ≡ last + 1 → AreInRow (ns ++ n ∷ []) n
longer [] last n row next = (omega arith, tt)
longer (x ∷ ns) last n row next =
    let many = length-append ns (n ∷ []) in
    (omega (arith, many, row.0, next), longer ns last n row.1 next)

-- ---- guesses that stand alone
pub numbers_alone : (ns : List ℕ) → numbers (alone ns) ≡ ns
numbers_alone [] = refl
numbers_alone (n ∷ ns) = ap (λ xs. n ∷ xs) (numbers_alone ns)

pub alone_more : (ns : List ℕ) (n : ℕ) → alone ns ++ (n, n ∷ []) ∷ [] ≡ alone (ns ++ n ∷ [])
alone_more [] n = refl
alone_more (x ∷ ns) n = ap (λ os. (x, x ∷ []) ∷ os) (alone_more ns n)

pub tokens_more : (kernel : ℕ) (ns : List ℕ) (n : ℕ) → tokens_of kernel ns ++ record { kernel = kernel; id = n } ∷ [] ≡ tokens_of kernel (ns ++ n ∷ [])
tokens_more kernel [] n = refl
tokens_more kernel (x ∷ ns) n = ap (λ ts. record { kernel = kernel; id = x } ∷ ts) (tokens_more kernel ns n)

same_number : (n : ℕ) → (n == n) ≡ true
same_number n = eq-eqb n n refl

without_other : (g n : ℕ) → (n == g) ≡ false → without g (n ∷ []) ≡ n ∷ []
without_other g n other = ap (λ b. cond (not b) (n ∷ []) []) other

without_itself : (n : ℕ) → without n (n ∷ []) ≡ []
without_itself n = ap (λ b. cond (not b) (n ∷ []) []) (same_number n)

-- the commit of a guess leaves those that it is not among as they are
other_stays : (g : ℕ) (ns : List ℕ) → has g ns ≡ false → still_open g (alone ns) ≡ alone ns
other_stays g [] none = refl
other_stays g (n ∷ ns) none =
    elim (n == g) as (λ b. (n == g) ≡ b → (b || has g ns) ≡ false → map (λ (o : Open). (o.0, without g o.1)) (cond (not b) ((n, n ∷ []) ∷ filter (λ (o : Open). not (o.0 == g)) (alone ns)) (filter (λ (o : Open). not (o.0 == g)) (alone ns))) ≡ alone (n ∷ ns)) [
      | true ↦ λ _ no. absurd (true≢false no)
      | false ↦ λ other no. (λ i. (n, without_other g n other i) ∷ other_stays g ns no i)
    ] refl none

pub first_committed : (n : ℕ) (ns : List ℕ) → has n ns ≡ false → still_open n (alone (n ∷ ns)) ≡ alone ns
first_committed n ns none =
    ap (λ b. map (λ (o : Open). (o.0, without n o.1)) (cond (not b) ((n, n ∷ []) ∷ filter (λ (o : Open). not (o.0 == n)) (alone ns)) (filter (λ (o : Open). not (o.0 == n)) (alone ns)))) (same_number n)
    ∙ other_stays n ns none

-- and so does its failure
other_lasts : (g : ℕ) (ns : List ℕ) → has g ns ≡ false → not_struck g (alone ns) ≡ alone ns
other_lasts g [] none = refl
other_lasts g (n ∷ ns) none =
    elim (n == g) as (λ b. (b || has g ns) ≡ false → cond (not (b || false)) ((n, n ∷ []) ∷ not_struck g (alone ns)) (not_struck g (alone ns)) ≡ alone (n ∷ ns)) [
      | true ↦ λ no. absurd (true≢false no)
      | false ↦ λ no. ap (λ os. (n, n ∷ []) ∷ os) (other_lasts g ns no)
    ] none

pub first_failed : (n : ℕ) (ns : List ℕ) → has n ns ≡ false → not_struck n (alone (n ∷ ns)) ≡ alone ns
first_failed n ns none =
    ap (λ b. cond (not (b || false)) ((n, n ∷ []) ∷ not_struck n (alone ns)) (not_struck n (alone ns))) (same_number n) ∙ other_lasts n ns none

-- it strikes no other
pub strikes_none : (g : ℕ) (ns : List ℕ) → struck_with g (alone ns) ≡ []
strikes_none g [] = refl
strikes_none g (n ∷ ns) =
    elim (n == g) as (λ b. numbers (cond ((b || false) && not b) ((n, n ∷ []) ∷ filter (λ (o : Open). has g o.1 && not (o.0 == g)) (alone ns)) (filter (λ (o : Open). has g o.1 && not (o.0 == g)) (alone ns))) ≡ []) [
      | true ↦ strikes_none g ns
      | false ↦ strikes_none g ns
    ]

-- of a row with a new number only that is kept by a test that finds it
pub only_new : (p : ℕ → Bool) (n : ℕ) (ns : List ℕ) → ((g : ℕ) → p g ≡ (n == g)) → has n ns ≡ false → filter p (ns ++ n ∷ []) ≡ n ∷ []
only_new p n [] tests none = ap (λ b. cond b (n ∷ []) []) (tests n ∙ same_number n)
only_new p n (x ∷ ns) tests none =
    elim (x == n) as (λ b. (x == n) ≡ b → (b || has n ns) ≡ false → cond (p x) (x ∷ filter p (ns ++ n ∷ [])) (filter p (ns ++ n ∷ [])) ≡ n ∷ []) [
      | true ↦ λ _ no. absurd (true≢false no)
      | false ↦ λ other no.
          ap (λ b. cond b (x ∷ filter p (ns ++ n ∷ [])) (filter p (ns ++ n ∷ []))) (tests x ∙ turned other)
          ∙ only_new p n ns tests no
    ] refl none where
      turned : (x == n) ≡ false → (n == x) ≡ false
      turned other = ne_eqb n x (λ same. true≢false (sym (eq-eqb x n (sym same)) ∙ other))

-- each of a row is near the last
near : (ns : List ℕ) (last h : ℕ) → AreInRow ns last → has h ns ≡ true → last < h + length ns
near [] last h row here = absurd (true≢false (sym here))
near (n ∷ ns) last h row here = elim (or_cases (n == h) (has h ns) here) [
  | inl is ↦ let same = eqb-true n h is in omega (arith, same, row.0)
  | inr later ↦ let less = near ns last h row.1 later in omega (arith, less)
]

-- ---- the notes of keys
module _ {V : Type 0} where
  abbrev note : ℕ → Note V
  note n = record { tags = n ∷ []; before = None }

  none_of : (k : ℕ) (ns : List ℕ) → ((h : ℕ) → has h ns ≡ true → (h % 128 == k % 128) ≡ false) → notes_by {V = V} k ns ≡ []
  none_of k [] differ = refl
  none_of k (n ∷ ns) differ =
      ap (λ b. cond b (note n ∷ notes_by k ns) (notes_by k ns)) (differ n (ap (λ b. b || has n ns) (same_number n)))
      ∙ none_of k ns (λ h here. differ h (or_right (n == h) (has h ns) here))

  -- the next of a row has a key of its own
  pub none_before : (ns : List ℕ) (last n : ℕ) → AreInRow ns last → n ≡ last + 1 → length ns < 128 → notes_by {V = V} n ns ≡ []
  none_before ns last n row next few = none_of n ns (λ h here.
      let most = at_most ns last h row here in
      let least = near ns last h row here in
      apart h n (omega (arith, most, next)) (omega (arith, least, next, few)))

  -- and so has its first
  none_behind : (k n : ℕ) (ns : List ℕ) (last : ℕ) → AreInRow (n ∷ ns) last → length ns < 128 → (n % 128 == k % 128) ≡ true → notes_by {V = V} k ns ≡ []
  none_behind k n ns last row few same = none_of k ns (λ h here.
      let more = above n ns last h row.0 row.1 here in
      let most = at_most ns last h row.1 here in
      ap (λ m. h % 128 == m) (sym (eqb-true (n % 128) (k % 128) same)) ∙ apart_too n h more (omega (arith, most, row.0, few)))

  pub notes_more : (k : ℕ) (ns : List ℕ) (n : ℕ) → notes_by {V = V} k ns ++ noted (n % 128 == k % 128) (n ∷ []) None [] ≡ notes_by k (ns ++ n ∷ [])
  notes_more k [] n = elim (n % 128 == k % 128) as (λ b. noted {V = V} b (n ∷ []) None [] ≡ cond b (note n ∷ []) []) [
    | true ↦ refl
    | false ↦ refl
  ]
  notes_more k (x ∷ ns) n = elim (x % 128 == k % 128) as (λ b. cond b (note x ∷ notes_by k ns) (notes_by k ns) ++ noted (n % 128 == k % 128) (n ∷ []) None [] ≡ cond b (note x ∷ notes_by k (ns ++ n ∷ [])) (notes_by k (ns ++ n ∷ []))) [
    | true ↦ ap (λ log. note x ∷ log) (notes_more k ns n)
    | false ↦ notes_more k ns n
  ]

  -- ---- a commit
  other_notes : (g k : ℕ) (ns : List ℕ) → has g ns ≡ false → committed g (notes_by {V = V} k ns) ≡ notes_by k ns
  other_notes g k [] none = refl
  other_notes g k (n ∷ ns) none =
      elim (n == g) as (λ b. (n == g) ≡ b → (b || has g ns) ≡ false → committed g (notes_by {V = V} k (n ∷ ns)) ≡ notes_by k (n ∷ ns)) [
        | true ↦ λ _ no. absurd (true≢false no)
        | false ↦ λ other no. elim (n % 128 == k % 128) as (λ b. committed g (cond b (note n ∷ notes_by k ns) (notes_by k ns)) ≡ cond b (note n ∷ notes_by k ns) (notes_by k ns)) [
          | true ↦ ap (λ tags. noted true tags None (committed g (notes_by k ns))) (without_other g n other) ∙ ap (λ log. note n ∷ log) (other_notes g k ns no)
          | false ↦ other_notes g k ns no
        ]
      ] refl none

  pub notes_committed : (n k : ℕ) (ns : List ℕ) → has n ns ≡ false → committed n (notes_by {V = V} k (n ∷ ns)) ≡ notes_by k ns
  notes_committed n k ns none = elim (n % 128 == k % 128) as (λ b. committed n (cond b (note n ∷ notes_by k ns) (notes_by k ns)) ≡ notes_by k ns) [
    | true ↦ ap (λ tags. noted true tags None (committed n (notes_by k ns))) (without_itself n) ∙ other_notes n k ns none
    | false ↦ other_notes n k ns none
  ]

  -- ---- a failure
  other_cut : (g k : ℕ) (ns : List ℕ) → has g ns ≡ false → cut g (notes_by {V = V} k ns) ≡ notes_by k ns
  other_cut g k [] none = refl
  other_cut g k (n ∷ ns) none =
      elim (n == g) as (λ b. (n == g) ≡ b → (b || has g ns) ≡ false → cut g (notes_by {V = V} k (n ∷ ns)) ≡ notes_by k (n ∷ ns)) [
        | true ↦ λ _ no. absurd (true≢false no)
        | false ↦ λ other no. elim (n % 128 == k % 128) as (λ b. cut g (cond b (note n ∷ notes_by k ns) (notes_by k ns)) ≡ cond b (note n ∷ notes_by k ns) (notes_by k ns)) [
          | true ↦ ap (λ b. cond (b || false) [] (note n ∷ cut g (notes_by k ns))) other ∙ ap (λ log. note n ∷ log) (other_cut g k ns no)
          | false ↦ other_cut g k ns no
        ]
      ] refl none

  pub notes_cut : (n k : ℕ) (ns : List ℕ) (last : ℕ) → AreInRow (n ∷ ns) last → length ns < 128 → cut n (notes_by {V = V} k (n ∷ ns)) ≡ notes_by k ns
  notes_cut n k ns last row few = elim (n % 128 == k % 128) as (λ b. (n % 128 == k % 128) ≡ b → cut n (cond b (note n ∷ notes_by k ns) (notes_by k ns)) ≡ notes_by k ns) [
    | true ↦ λ same. ap (λ b. cond (b || false) [] (note n ∷ cut n (notes_by k ns))) (same_number n) ∙ sym (none_behind k n ns last row few same)
    | false ↦ λ _. other_cut n k ns (not_again n ns last row)
  ] refl

  -- no key of a batch was ever there
  pub never_there : (g k : ℕ) (ns : List ℕ) → unwound g (notes_by {V = V} k ns) None ≡ None
  never_there g k [] = refl
  never_there g k (n ∷ ns) = elim (n % 128 == k % 128) as (λ b. unwound g (cond b (note n ∷ notes_by k ns) (notes_by k ns)) None ≡ None) [
    | true ↦ elim (has g (n ∷ [])) as (λ b. cond {A = Option V} b None (unwound g (notes_by k ns) None) ≡ None) [
      | true ↦ refl
      | false ↦ never_there g k ns
    ]
    | false ↦ never_there g k ns
  ]

  -- ---- no note of a row is left out
  pub none_left_out : (t : List ℕ) (k : ℕ) (ns : List ℕ) (last : ℕ) (ms : List (Note V)) → AreInRow ns last → ((h : ℕ) → has h ns ≡ true → h ∷ [] ≡ t → ⊥)
      → Merges t (notes_by k ns) ms → ms ≡ notes_by k ns
  none_left_out t k [] last [] row new h = refl
  none_left_out t k [] last (m ∷ ms) row new h = absurd h
  none_left_out t k (n ∷ ns) last ms row new h =
      elim (n % 128 == k % 128) as (λ b. Merges t (cond b (note n ∷ notes_by k ns) (notes_by k ns)) ms → ms ≡ cond b (note n ∷ notes_by k ns) (notes_by k ns)) [
        | true ↦ first ms (λ rest h. none_left_out (n ∷ []) k ns last rest row.1 other h)
        | false ↦ none_left_out t k ns last ms row.1 (λ h here. new h (or_right (n == h) (has h ns) here))
      ] h where
        itself : n ∷ [] ≡ t → ⊥
        itself = new n (ap (λ b. b || has n ns) (same_number n))

        other : (h : ℕ) → has h ns ≡ true → h ∷ [] ≡ n ∷ [] → ⊥
        other h here same =
            let is : h ≡ n = cc in
            true≢false (sym here ∙ ap (λ m. has m ns) is ∙ not_again n ns last row)

        first : (ms : List (Note V)) → ((rest : List (Note V)) → Merges (n ∷ []) (notes_by k ns) rest → rest ≡ notes_by k ns)
            → Merges t (note n ∷ notes_by k ns) ms → ms ≡ note n ∷ notes_by k ns
        first [] stay h = absurd (itself h.0)
        first (m ∷ rest) stay (inl h) = absurd (itself h.0)
        first (m ∷ rest) stay (inr h) = (λ i. h.0 i ∷ stay rest h.1 i)
