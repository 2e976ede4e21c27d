-- Requests at the front of bytes.
use Rattle.sk_requests.proofs.Names.{◌≡◌, ◌≢◌, ℕ, ◌+◌, ◌<◌, ◌≤◌, ◌^◌, List, [], ◌∷◌, ◌++◌, length, slice_index, drop}
use Rattle.sk_requests.proofs.Names.{refl, sym, ◌∙◌, ap, inl, inr, arith, length-append, append_assoc, append-nil}
use Rattle.sk_requests.proofs.Names.{line_words, head, bulk, bulks, array, AreWords, IsArray, IsInline, IsRequest}
use Rattle.sk_requests.proofs.Names.{BeginsNone, InWords, NoLine, HasFault, Limits, Fault, Count, Line, Length, Mark}
use Rattle.sk_requests.proofs.Names.{End}
use Rattle.sk_requests.proofs.Lines.{same_parts, same_line, same_head, first_head}

pub star : ◌≢◌ {A = ℕ} 42 10
star e = omega (arith, e)

pub dollar : ◌≢◌ {A = ℕ} 36 10
dollar e = omega (arith, e)

pub bulk_parts : (w x : List ℕ) → bulk w ++ x ≡ head 36 (length w) ++ (w ++ 13 ∷ 10 ∷ x)
bulk_parts w x =
    append_assoc (head 36 (length w)) (w ++ 13 ∷ 10 ∷ []) x ∙ ap (λ xs. head 36 (length w) ++ xs) (append_assoc w (13 ∷ 10 ∷ []) x)

same_bulk : (v w x y : List ℕ) → length v ≤ 2 ^ 29 → length w ≤ 2 ^ 29 → bulk v ++ x ≡ bulk w ++ y → (v ≡ w) × (x ≡ y)
same_bulk v w x y short short' same =
    let heads = same_head 36 (length v) (length w) (v ++ 13 ∷ 10 ∷ x) (w ++ 13 ∷ 10 ∷ y) dollar (omega (arith, short)) (omega (arith, short')) (sym (bulk_parts v x) ∙ same ∙ bulk_parts w y) in
    let parts = same_parts (length w) v w (13 ∷ 10 ∷ x) (13 ∷ 10 ∷ y) heads.0 refl heads.1 in
    (parts.0, ap (drop 2) parts.1)

-- Words at the front of words.
pub front_words : (us ws : List (List ℕ)) (x y : List ℕ) → AreWords us → AreWords ws → length us ≤ length ws → bulks us ++ x ≡ bulks ws ++ y
    → (more : List (List ℕ)) × (ws ≡ us ++ more) × (x ≡ bulks more ++ y) × AreWords more
front_words [] ws x y each each' few same = (ws, refl, same, each')
front_words (u ∷ us) [] x y each each' few same = absurd (omega (arith, few))
front_words (u ∷ us) (w ∷ ws) x y each each' few same =
    let both = same_bulk u w (bulks us ++ x) (bulks ws ++ y) each.0 each'.0 (sym (append_assoc (bulk u) (bulks us) x) ∙ same ∙ append_assoc (bulk w) (bulks ws) y) in
    let rest = front_words us ws x y each.1 each'.1 (omega (arith, few)) both.1 in
    let first = sym both.0 in
    (rest.0, λ i. first i ∷ rest.1 i, rest.2, rest.3)

-- What stands behind some words of an array are words of it.
in_array : (vs : List (List ℕ)) (bytes : List ℕ) (left : ℕ) (rest later more : List ℕ) (ws : List (List ℕ)) → InWords vs bytes left rest → length ws < 2 ^ 31 → AreWords ws → bytes ++ later ≡ array ws ++ more
    → (next : List (List ℕ)) × (length next ≡ left) × (rest ++ later ≡ bulks next ++ more) × AreWords next
in_array vs bytes left rest later more ws b few each is =
    let count = length vs + left in
    let heads = same_head 42 count (length ws) ((bulks vs ++ rest) ++ later) (bulks ws ++ more) star (omega (arith, b.few)) (omega (arith, few))
    (sym (append_assoc (head 42 count) (bulks vs ++ rest) later) ∙ ap (λ xs. xs ++ later) (sym b.begins) ∙ is ∙ append_assoc (head 42 (length ws)) (bulks ws) more) in
    let got = front_words vs ws (rest ++ later) more b.each each (omega (arith, heads.0)) (sym (append_assoc (bulks vs) rest later) ∙ heads.1) in
    (got.0, omega (arith, ap length got.1, length-append vs got.0, heads.0), got.2, got.3)

-- The first of some words stands at the front.
first_word : (next : List (List ℕ)) (bytes more : List ℕ) → 0 < length next → AreWords next → bytes ≡ bulks next ++ more
    → (w : List ℕ) × (rest : List ℕ) × (length w ≤ 2 ^ 29) × (bytes ≡ head 36 (length w) ++ (w ++ 13 ∷ 10 ∷ rest))
first_word [] bytes more some each is = absurd (omega (arith, some))
first_word (w ∷ ws) bytes more some each is = (w, bulks ws ++ more, each.0, is ∙ append_assoc (bulk w) (bulks ws) more ∙ bulk_parts w (bulks ws ++ more))

-- Behind some words of an array, the next one stands.
pub next_word : (vs : List (List ℕ)) (bytes : List ℕ) (left : ℕ) (rest later more text : List ℕ) (ws : List (List ℕ)) → InWords vs bytes left rest → IsArray ws text → bytes ++ later ≡ text ++ more
    → (w : List ℕ) × (behind : List ℕ) × (length w ≤ 2 ^ 29) × (rest ++ later ≡ head 36 (length w) ++ (w ++ 13 ∷ 10 ∷ behind))
next_word vs bytes left rest later more text ws b a is =
    let got = in_array vs bytes left rest later more ws b a.few a.each (is ∙ ap (λ xs. xs ++ more) a.is) in
    first_word got.0 (rest ++ later) more (omega (arith, got.1, b.some)) got.3 got.2

pub first_stays : (bytes later : List ℕ) (mark : ℕ) → 0 < mark → slice_index bytes 0 ≡ mark → slice_index (bytes ++ later) 0 ≡ mark
first_stays [] later mark some is = absurd (omega (arith, is, some))
first_stays (b ∷ bytes) later mark some is = is

first_inline : (line more : List ℕ) → slice_index line 0 ≢ 42 → slice_index ((line ++ 10 ∷ []) ++ more) 0 ≢ 42
first_inline [] more ne e = omega (arith, e)
first_inline (b ∷ bytes) more ne e = ne e

first_array : (ws : List (List ℕ)) (text more : List ℕ) → IsArray ws text → slice_index (text ++ more) 0 ≡ 42
first_array ws text more a =
    ap (λ (xs : List ℕ). slice_index (xs ++ more) 0) a.is
    ∙ ap (λ (xs : List ℕ). slice_index xs 0) (append_assoc (head 42 (length ws)) (bulks ws) more)
    ∙ first_head 42 (length ws) (bulks ws ++ more)

pub first_in_words : (vs : List (List ℕ)) (bytes : List ℕ) (left : ℕ) (rest : List ℕ) → InWords vs bytes left rest → slice_index bytes 0 ≡ 42
first_in_words vs bytes left rest b =
    ap (λ (xs : List ℕ). slice_index xs 0) b.begins ∙ first_head 42 (length vs + left) (bulks vs ++ rest)

-- Bytes that begin with `*` are no line that a person types.
pub no_inline : (limits : Limits) (ws : List (List ℕ)) (bytes later text more : List ℕ) → slice_index bytes 0 ≡ 42 → IsInline limits ws text → bytes ++ later ≡ text ++ more → ⊥
no_inline limits ws bytes later text more first l is =
    first_inline l.line more l.first
    (ap (λ (xs : List ℕ). slice_index xs 0) (ap (λ xs. xs ++ more) (sym l.is) ∙ sym is) ∙ first_stays bytes later 42 (omega arith) first)

-- Bytes that hold no line aren't none.
pub some_byte : (limits : Limits) (bytes later : List ℕ) → slice_index bytes 0 ≢ 42 → NoLine limits bytes → slice_index (bytes ++ later) 0 ≢ 42
some_byte limits [] later ne none e = none [] (10 ∷ []) [] (λ i lt same. omega (arith, lt)) (omega arith) refl
some_byte limits (b ∷ bytes) later ne none e = ne e

no_array : (limits : Limits) (bytes : List ℕ) (fault : Fault) (ws : List (List ℕ)) (text later more : List ℕ) → HasFault limits fault bytes → IsArray ws text → bytes ++ later ≡ text ++ more → ⊥
no_array limits bytes Count ws text later more has a is =
    has.1 (length ws) later (bulks ws ++ more) (omega (arith, a.few)) (is ∙ ap (λ xs. xs ++ more) a.is ∙ append_assoc (head 42 (length ws)) (bulks ws) more)
no_array limits bytes Line ws text later more has a is =
    some_byte limits bytes later has.0 has.1 (ap (λ (xs : List ℕ). slice_index xs 0) is ∙ first_array ws text more a)
no_array limits bytes Length ws text later more has a is =
    let next = next_word has.0 bytes has.1 has.2 later more text ws has.3 a is in
    has.5 (length next.0) later (next.0 ++ 13 ∷ 10 ∷ next.1) next.2 next.3
no_array limits bytes (Mark b) ws text later more has a is =
    let next = next_word has.0 bytes has.1 (b ∷ has.2) later more text ws has.3 a is in
    has.4 (ap (λ (xs : List ℕ). slice_index xs 0) next.3 ∙ first_head 36 (length next.0) (next.0 ++ 13 ∷ 10 ∷ next.1))
no_array limits bytes End ws text later more has a is =
    let word = has.2 in
    let rest = has.3 in
    let next = next_word has.0 bytes has.1 (head 36 (length word) ++ (word ++ rest)) later more text ws has.4 a is in
    let heads = same_head 36 (length word) (length next.0) ((word ++ rest) ++ later) (next.0 ++ 13 ∷ 10 ∷ next.1) dollar (omega (arith, has.5)) (omega (arith, next.2))
    (sym (append_assoc (head 36 (length word)) (word ++ rest) later) ∙ next.3) in
    let parts = same_parts (length next.0) word next.0 (rest ++ later) (13 ∷ 10 ∷ next.1) heads.0 refl (sym (append_assoc word rest later) ∙ heads.1) in
    has.6 later next.1 parts.1

-- Bytes that have a fault aren't a line that a person types.
no_typed : (limits : Limits) (bytes : List ℕ) (fault : Fault) (ws : List (List ℕ)) (text later more : List ℕ) → HasFault limits fault bytes → IsInline limits ws text → bytes ++ later ≡ text ++ more → ⊥
no_typed limits bytes Count ws text later more has l is = no_inline limits ws bytes later text more has.0 l is
no_typed limits bytes Line ws text later more has l is =
    has.1 l.line later more l.one l.short (is ∙ ap (λ xs. xs ++ more) l.is ∙ append_assoc l.line (10 ∷ []) more)
no_typed limits bytes Length ws text later more has l is = no_inline limits ws bytes later text more (first_in_words has.0 bytes has.1 has.2 has.3) l is
no_typed limits bytes (Mark b) ws text later more has l is = no_inline limits ws bytes later text more (first_in_words has.0 bytes has.1 (b ∷ has.2) has.3) l is
no_typed limits bytes End ws text later more has l is =
    no_inline limits ws bytes later text more (first_in_words has.0 bytes has.1 (head 36 (length has.2) ++ (has.2 ++ has.3)) has.4) l is

-- Bytes that have a fault begin no request, whatever follows.
pub fault_is_final : (limits : Limits) (fault : Fault) (bytes : List ℕ) → HasFault limits fault bytes → BeginsNone limits bytes
fault_is_final limits fault bytes has ws text later more request is =
    elim request [
      | inl a ↦ no_array limits bytes fault ws text later more has a is
      | inr l ↦ no_typed limits bytes fault ws text later more has l is
    ]

-- Words that are as many are the same.
no_more : (ws us more : List (List ℕ)) (x y : List ℕ) → ws ≡ us ++ more → length us ≡ length ws → x ≡ bulks more ++ y → (us ≡ ws) × (x ≡ y)
no_more ws us [] x y is len behind = (sym (append-nil us) ∙ sym is, behind)
no_more ws us (m ∷ more) x y is len behind = absurd (omega (arith, ap length is, length-append us (m ∷ more), len))

pub first_alone : (vs : List (List ℕ)) (bytes : List ℕ) → IsArray vs bytes → slice_index bytes 0 ≡ 42
first_alone vs bytes a = ap (λ (xs : List ℕ). slice_index xs 0) a.is ∙ first_head 42 (length vs) (bulks vs)

-- One request stands at the front of bytes at most.
pub one_request : (limits : Limits) (us ws : List (List ℕ)) (text text' x y : List ℕ) → IsRequest limits us text → IsRequest limits ws text' → text ++ x ≡ text' ++ y → (us ≡ ws) × (text ≡ text') × (x ≡ y)
one_request limits us ws text text' x y one two is = elim one [
  | inl a ↦ elim two [
    | inl b ↦
        let heads = same_head 42 (length us) (length ws) (bulks us ++ x) (bulks ws ++ y) star (omega (arith, a.few)) (omega (arith, b.few))
        (sym (append_assoc (head 42 (length us)) (bulks us) x) ∙ ap (λ xs. xs ++ x) (sym a.is) ∙ is ∙ ap (λ xs. xs ++ y) b.is ∙ append_assoc (head 42 (length ws)) (bulks ws) y) in
        let got = front_words us ws x y a.each b.each (omega (arith, heads.0)) heads.1 in
        let same = no_more ws us got.0 x y got.1 heads.0 got.2 in
        (same.0, a.is ∙ ap array same.0 ∙ sym b.is, same.1)
    | inr l ↦ absurd (no_inline limits ws text x text' y (first_alone us text a) l is)
  ]
  | inr l ↦ elim two [
    | inl b ↦ absurd (no_inline limits us text' y text x (first_alone ws text' b) l (sym is))
    | inr m ↦
        let lines = same_line l.line m.line x y l.one m.one
        (sym (append_assoc l.line (10 ∷ []) x) ∙ ap (λ xs. xs ++ x) (sym l.is) ∙ is ∙ ap (λ xs. xs ++ y) m.is ∙ append_assoc m.line (10 ∷ []) y) in
        (l.words_are ∙ ap line_words lines.0 ∙ sym m.words_are, l.is ∙ ap (λ xs. xs ++ 10 ∷ []) lines.0 ∙ sym m.is, lines.1)
  ]
]
