-- Bytes have one fault, whatever follows them.
use Rattle.sk_requests.proofs.Names.{◌≡◌, ◌≢◌, ℕ, ◌+◌, ◌≤◌, ◌^◌, List, [], ◌∷◌, ◌++◌, length, slice_index, refl, sym}
use Rattle.sk_requests.proofs.Names.{◌∙◌, ap, inl, inr, arith, append_assoc, append-nil, cases_lt, head, bulk, bulks}
use Rattle.sk_requests.proofs.Names.{AreWords, InWords, NoHead, NoEnd, HasFault, FaultsAreApart, Limits, Fault, Count}
use Rattle.sk_requests.proofs.Names.{Line, Length, Mark, End}
use Rattle.sk_requests.proofs.Lines.{same_parts, same_head, first_head}
use Rattle.sk_requests.proofs.Arrays.{star, dollar, bulk_parts, front_words, first_stays, some_byte, first_in_words}

-- No word stands at the front, whatever follows.
abbrev NoWord : List ℕ → Type 0
NoWord rest = (w behind later : List ℕ) → length w ≤ 2 ^ 29 → rest ++ later ≡ head 36 (length w) ++ (w ++ 13 ∷ 10 ∷ behind) → ⊥

-- The fault, where the rest stands behind some words.
abbrev IsHere : Fault → List ℕ → Type 0
IsHere Count rest = ⊥
IsHere Line rest = ⊥
IsHere Length rest = (slice_index rest 0 ≡ 36) × NoHead 36 (2 ^ 29) rest
IsHere (Mark b) rest = (more : List ℕ) × (rest ≡ b ∷ more) × (b ≢ 36)
IsHere End rest = (word behind : List ℕ) × (rest ≡ head 36 (length word) ++ (word ++ behind)) × (length word ≤ 2 ^ 29) × NoEnd behind

record InFault (fault : Fault) (bytes : List ℕ) : Type 0 where
  words : List (List ℕ)
  left : ℕ
  rest : List ℕ
  inside : InWords words bytes left rest
  here : IsHere fault rest

no_word : (fault : Fault) (rest : List ℕ) → IsHere fault rest → NoWord rest
no_word Count rest here w behind later short is = here
no_word Line rest here w behind later short is = here
no_word Length rest here w behind later short is = here.1 (length w) later (w ++ 13 ∷ 10 ∷ behind) short is
no_word (Mark b) rest here w behind later short is =
    here.2 (ap (λ (xs : List ℕ). slice_index (xs ++ later) 0) (sym here.1) ∙ ap (λ (xs : List ℕ). slice_index xs 0) is ∙ first_head 36 (length w) (w ++ 13 ∷ 10 ∷ behind))
no_word End rest here w behind later short is =
    let word = here.0 in
    let heads = same_head 36 (length word) (length w) ((word ++ here.1) ++ later) (w ++ 13 ∷ 10 ∷ behind) dollar (omega (arith, here.3)) (omega (arith, short))
    (sym (append_assoc (head 36 (length word)) (word ++ here.1) later) ∙ ap (λ xs. xs ++ later) (sym here.2) ∙ is) in
    let parts = same_parts (length w) word w (here.1 ++ later) (13 ∷ 10 ∷ behind) heads.0 refl (sym (append_assoc word here.1 later) ∙ heads.1) in
    here.4 later behind parts.1

-- Words behind which no word stands are all of them.
none_left : (more : List (List ℕ)) (rest rest' : List ℕ) → AreWords more → NoWord rest → rest ≡ bulks more ++ rest' → rest ≡ rest'
none_left [] rest rest' each none is = is
none_left (w ∷ more) rest rest' each none is =
    absurd (none w (bulks more ++ rest') [] each.0 (append-nil rest ∙ is ∙ append_assoc (bulk w) (bulks more) rest' ∙ bulk_parts w (bulks more ++ rest')))

same_rest : (us vs : List (List ℕ)) (rest rest' : List ℕ) → AreWords us → AreWords vs → NoWord rest → NoWord rest' → bulks us ++ rest ≡ bulks vs ++ rest' → rest ≡ rest'
same_rest us vs rest rest' each each' none none' is =
    elim (cases_lt (length vs) (length us)) [
      | inl fewer ↦
          let got = front_words vs us rest' rest each' each (omega (arith, fewer)) (sym is) in
          sym (none_left got.0 rest' rest got.3 none' got.2)
      | inr more ↦
          let got = front_words us vs rest rest' each each' more is in
          none_left got.0 rest rest' got.3 none got.2
    ]

same_here : (f g : Fault) (rest rest' later : List ℕ) → IsHere f rest → IsHere g rest' → rest ++ later ≡ rest' → f ≡ g
same_here Count g rest rest' later here here' is = absurd here
same_here Line g rest rest' later here here' is = absurd here
same_here f Count rest rest' later here here' is = absurd here'
same_here f Line rest rest' later here here' is = absurd here'
same_here Length Length rest rest' later here here' is = refl
same_here Length (Mark b) rest rest' later here here' is =
    absurd (here'.2 (ap (λ (xs : List ℕ). slice_index xs 0) (sym here'.1 ∙ sym is) ∙ first_stays rest later 36 (omega arith) here.0))
same_here Length End rest rest' later here here' is = absurd (here.1 (length here'.0) later (here'.0 ++ here'.1) here'.3 (is ∙ here'.2))
same_here (Mark b) Length rest rest' later here here' is =
    absurd (here.2 (ap (λ (xs : List ℕ). slice_index (xs ++ later) 0) (sym here.1) ∙ ap (λ (xs : List ℕ). slice_index xs 0) is ∙ here'.0))
same_here (Mark b) (Mark d) rest rest' later here here' is =
    ap Mark (ap (λ (xs : List ℕ). slice_index (xs ++ later) 0) (sym here.1) ∙ ap (λ (xs : List ℕ). slice_index xs 0) (is ∙ here'.1))
same_here (Mark b) End rest rest' later here here' is =
    absurd (here.2 (ap (λ (xs : List ℕ). slice_index (xs ++ later) 0) (sym here.1) ∙ ap (λ (xs : List ℕ). slice_index xs 0) (is ∙ here'.2) ∙ first_head 36 (length here'.0) (here'.0 ++ here'.1)))
same_here End Length rest rest' later here here' is =
    absurd (here'.1 (length here.0) [] ((here.0 ++ here.1) ++ later) here.3 (append-nil rest' ∙ sym is ∙ ap (λ xs. xs ++ later) here.2 ∙ append_assoc (head 36 (length here.0)) (here.0 ++ here.1) later))
same_here End (Mark b) rest rest' later here here' is =
    let front : slice_index (rest ++ later) 0 ≡ 36 =
    ap (λ (xs : List ℕ). slice_index (xs ++ later) 0) here.2 ∙ ap (λ (xs : List ℕ). slice_index xs 0) (append_assoc (head 36 (length here.0)) (here.0 ++ here.1) later) ∙ first_head 36 (length here.0) ((here.0 ++ here.1) ++ later) in
    absurd (here'.2 (ap (λ (xs : List ℕ). slice_index xs 0) (sym here'.1 ∙ sym is) ∙ front))
same_here End End rest rest' later here here' is = refl

-- The words of both arrays are the same.
in_apart : (f g : Fault) (bytes later : List ℕ) → InFault f bytes → InFault g (bytes ++ later) → f ≡ g
in_apart f g bytes later one two =
    let n = length one.words + one.left in
    let heads = same_head 42 n (length two.words + two.left) ((bulks one.words ++ one.rest) ++ later) (bulks two.words ++ two.rest) star (omega (arith, one.inside.few)) (omega (arith, two.inside.few))
    (sym (append_assoc (head 42 n) (bulks one.words ++ one.rest) later) ∙ ap (λ xs. xs ++ later) (sym one.inside.begins) ∙ two.inside.begins) in
    let none : NoWord (one.rest ++ later) = λ w behind more short is. no_word f one.rest one.here w behind (later ++ more) short (sym (append_assoc one.rest later more) ∙ is) in
    let same = same_rest one.words two.words (one.rest ++ later) two.rest one.inside.each two.inside.each none (no_word g two.rest two.here) (sym (append_assoc (bulks one.words) one.rest later) ∙ heads.1) in
    same_here f g one.rest two.rest later one.here two.here same

in_length : (limits : Limits) (bytes : List ℕ) → HasFault limits Length bytes → InFault Length bytes
in_length limits bytes has = record { words = has.0; left = has.1; rest = has.2; inside = has.3; here = (has.4, has.5) }

in_mark : (limits : Limits) (b : ℕ) (bytes : List ℕ) → HasFault limits (Mark b) bytes → InFault (Mark b) bytes
in_mark limits b bytes has = record { words = has.0; left = has.1; rest = b ∷ has.2; inside = has.3; here = (has.2, refl, has.4) }

in_end : (limits : Limits) (bytes : List ℕ) → HasFault limits End bytes → InFault End bytes
in_end limits bytes has = record { words = has.0; left = has.1; rest = head 36 (length has.2) ++ (has.2 ++ has.3); inside = has.4; here = (has.2, has.3, refl, has.5, has.6) }

-- A fault of the first line is none within an array.
count_or : (limits : Limits) (f : Fault) (bytes later : List ℕ) → HasFault limits Count bytes → InFault f (bytes ++ later) → ⊥
count_or limits f bytes later has in_it =
    has.1 (length in_it.words + in_it.left) later (bulks in_it.words ++ in_it.rest) (omega (arith, in_it.inside.few)) in_it.inside.begins

or_count : (limits : Limits) (f : Fault) (bytes later : List ℕ) → InFault f bytes → HasFault limits Count (bytes ++ later) → ⊥
or_count limits f bytes later in_it has =
    let n = length in_it.words + in_it.left in
    has.1 n [] ((bulks in_it.words ++ in_it.rest) ++ later) (omega (arith, in_it.inside.few))
    (append-nil (bytes ++ later) ∙ ap (λ xs. xs ++ later) in_it.inside.begins ∙ append_assoc (head 42 n) (bulks in_it.words ++ in_it.rest) later)

line_or : (limits : Limits) (f : Fault) (bytes later : List ℕ) → HasFault limits Line bytes → InFault f (bytes ++ later) → ⊥
line_or limits f bytes later has in_it = some_byte limits bytes later has.0 has.1 (first_in_words in_it.words (bytes ++ later) in_it.left in_it.rest in_it.inside)

or_line : (limits : Limits) (f : Fault) (bytes later : List ℕ) → InFault f bytes → HasFault limits Line (bytes ++ later) → ⊥
or_line limits f bytes later in_it has = has.0 (first_stays bytes later 42 (omega arith) (first_in_words in_it.words bytes in_it.left in_it.rest in_it.inside))

pub one_fault : FaultsAreApart
one_fault limits Count Count bytes later one two = refl
one_fault limits Count Line bytes later one two = absurd (two.0 (first_stays bytes later 42 (omega arith) one.0))
one_fault limits Count Length bytes later one two = absurd (count_or limits Length bytes later one (in_length limits (bytes ++ later) two))
one_fault limits Count (Mark b) bytes later one two = absurd (count_or limits (Mark b) bytes later one (in_mark limits b (bytes ++ later) two))
one_fault limits Count End bytes later one two = absurd (count_or limits End bytes later one (in_end limits (bytes ++ later) two))
one_fault limits Line Count bytes later one two = absurd (some_byte limits bytes later one.0 one.1 two.0)
one_fault limits Line Line bytes later one two = refl
one_fault limits Line Length bytes later one two = absurd (line_or limits Length bytes later one (in_length limits (bytes ++ later) two))
one_fault limits Line (Mark b) bytes later one two = absurd (line_or limits (Mark b) bytes later one (in_mark limits b (bytes ++ later) two))
one_fault limits Line End bytes later one two = absurd (line_or limits End bytes later one (in_end limits (bytes ++ later) two))
one_fault limits Length Count bytes later one two = absurd (or_count limits Length bytes later (in_length limits bytes one) two)
one_fault limits Length Line bytes later one two = absurd (or_line limits Length bytes later (in_length limits bytes one) two)
one_fault limits Length Length bytes later one two = refl
one_fault limits Length (Mark b) bytes later one two = in_apart Length (Mark b) bytes later (in_length limits bytes one) (in_mark limits b (bytes ++ later) two)
one_fault limits Length End bytes later one two = in_apart Length End bytes later (in_length limits bytes one) (in_end limits (bytes ++ later) two)
one_fault limits (Mark b) Count bytes later one two = absurd (or_count limits (Mark b) bytes later (in_mark limits b bytes one) two)
one_fault limits (Mark b) Line bytes later one two = absurd (or_line limits (Mark b) bytes later (in_mark limits b bytes one) two)
one_fault limits (Mark b) Length bytes later one two = in_apart (Mark b) Length bytes later (in_mark limits b bytes one) (in_length limits (bytes ++ later) two)
one_fault limits (Mark b) (Mark d) bytes later one two = in_apart (Mark b) (Mark d) bytes later (in_mark limits b bytes one) (in_mark limits d (bytes ++ later) two)
one_fault limits (Mark b) End bytes later one two = in_apart (Mark b) End bytes later (in_mark limits b bytes one) (in_end limits (bytes ++ later) two)
one_fault limits End Count bytes later one two = absurd (or_count limits End bytes later (in_end limits bytes one) two)
one_fault limits End Line bytes later one two = absurd (or_line limits End bytes later (in_end limits bytes one) two)
one_fault limits End Length bytes later one two = in_apart End Length bytes later (in_end limits bytes one) (in_length limits (bytes ++ later) two)
one_fault limits End (Mark b) bytes later one two = in_apart End (Mark b) bytes later (in_end limits bytes one) (in_mark limits b (bytes ++ later) two)
one_fault limits End End bytes later one two = refl
