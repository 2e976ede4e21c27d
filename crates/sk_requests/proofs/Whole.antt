-- Requests that are whole, read in one pass.
use Rattle.sk_requests.proofs.Names.{◌≡◌, ℕ, ◌+◌, ◌-◌, ◌*◌, ◌/◌, ◌%◌, ◌<◌, ◌≤◌, ◌^◌, false, true, not, ◌==◌, List, [], ◌∷◌}
use Rattle.sk_requests.proofs.Names.{◌++◌, length, slice_index, take, drop, decimal, refl, sym, ◌∙◌, ap, subst, inl, inr}
use Rattle.sk_requests.proofs.Names.{arith, rules, false≢true, cases_lt, length-append, length-drop, length-take-le}
use Rattle.sk_requests.proofs.Names.{take-append-drop, take_more, append_assoc, append-nil, decimal_digit, decimal_step}
use Rattle.sk_requests.proofs.Names.{head, bulk, bulks, AreWords, total, IsArray, Fits, IsWithin, IsNextWord, has_some}
use Rattle.sk_requests.proofs.Names.{IsAt, IsBehind, Limits, Place, Reader}
use Rattle.sk_requests.specs.declared.place.Place.TheVariants as places
use Rattle.sk_requests.proofs.Lines.{head_parts}
use Rattle.sk_requests.proofs.Steps.{take_on, take_one, bulks-push, total-push, each-push}

-- So many bytes are some, and then those behind them.
pub take_split : (xs : List ℕ) (a b m : ℕ) → a ≤ length xs → m ≡ a + b → take m xs ≡ take a xs ++ take b (drop a xs)
take_split xs a b m within is =
    ap (take m) (sym (take-append-drop a xs)) ∙ take_on (take a xs) (drop a xs) m b (omega (arith, is, length-take-le a xs within))

-- A mark, digits and the end of a line are a head.
pub head_whole : (bytes : List ℕ) (mark n count : ℕ) → 0 < length bytes → slice_index bytes 0 ≡ mark → count ≤ length (drop 1 bytes)
    → take count (drop 1 bytes) ≡ decimal n → drop count (drop 1 bytes) ≡ 13 ∷ 10 ∷ drop 2 (drop count (drop 1 bytes)) → take (count + 3) bytes ≡ head mark n
head_whole bytes mark n count some first within digits ends =
    let one = take_one bytes mark some first in
    let behind = take_split (drop 1 bytes) count 2 (count + 2) within refl in
    let two = ap (take 2) ends in
    take_split bytes 1 (count + 2) (count + 3) (omega (arith, some)) (omega arith)
    ∙ (λ i. one i ++ behind i) ∙ (λ i. mark ∷ (digits i ++ two i)) ∙ sym (head_parts mark n)

-- A head, as many bytes as it says, and the end of a line are a word.
pub word_whole : (bytes : List ℕ) (at size count : ℕ) → at ≤ length bytes → take at bytes ≡ head 36 size → size ≤ length (drop at bytes)
    → drop size (drop at bytes) ≡ 13 ∷ 10 ∷ drop 2 (drop size (drop at bytes)) → count ≡ at + (size + 2) → take count bytes ≡ bulk (take size (drop at bytes))
word_whole bytes at size count within begins fits ends is =
    let rest = drop at bytes in
    let behind = take_split rest size 2 (size + 2) fits refl in
    let two = ap (take 2) ends in
    let len : size ≡ length (take size rest) = sym (length-take-le size rest fits) in
    take_split bytes at (size + 2) count within is
    ∙ (λ i. begins i ++ behind i) ∙ (λ i. head 36 (len i) ++ (take size rest ++ two i))

-- The head of a request that has so many words came, and the first of them.
pub record Came (limits : Limits) (bytes : List ℕ) (count index at room : ℕ) (words : List (List ℕ)) : Type 0 where
  pub some : 0 < at
  pub within : at ≤ length bytes
  pub many : length words ≡ index
  pub each : AreWords words
  pub adds : room + total words ≡ limits.bytes
  pub is : take at bytes ≡ head 42 count ++ bulks words

pub came_none : (limits : Limits) (bytes : List ℕ) (count at : ℕ) (words : List (List ℕ)) → words ≡ [] → 0 < at → at ≤ length bytes → take at bytes ≡ head 42 count
    → Came limits bytes count 0 at limits.bytes words
came_none limits bytes count at words none some within is =
    let back = sym none in
    record {
      some = some;
      within = within;
      many = ap (λ (ws : List (List ℕ)). length ws) none;
      each = subst AreWords back tt;
      adds = ap (λ ws. limits.bytes + total ws) none ∙ omega arith;
      is = is ∙ sym (append-nil (head 42 count)) ∙ ap (λ ws. head 42 count ++ bulks ws) back;
    }

pub came_next : (limits : Limits) (bytes : List ℕ) (count index at room len size room' : ℕ) (words new : List (List ℕ)) → Came limits bytes count index at room words
    → IsNextWord words new (drop at bytes) room len size → room' + size ≡ room → Came limits bytes count (index + 1) (at + len) room' new
came_next limits bytes count index at room len size room' words new came next less =
    let word = next.0 in
    let same = sym next.1 in
    record {
      some = omega (arith, came.some);
      within = omega (arith, came.within, next.5, length-drop at bytes);
      many = ap (λ (ws : List (List ℕ)). length ws) next.1 ∙ omega (arith, length-append words (word ∷ []), came.many);
      each = subst AreWords same (each-push words word came.each (omega (arith, next.2, next.4)));
      adds = ap (λ ws. room' + total ws) next.1 ∙ omega (arith, total-push words word, came.adds, next.2, less);
      is = take_split bytes at len (at + len) came.within refl ∙ (λ i. came.is i ++ next.6 i)
          ∙ append_assoc (head 42 count) (bulks words) (bulk word) ∙ ap (λ xs. head 42 count ++ xs) (sym (bulks-push words word))
          ∙ ap (λ ws. head 42 count ++ bulks ws) same;
    }

-- A digit more.
decimal_on : (n b : ℕ) → 0 < n → 48 ≤ b → b ≤ 57 → n * 10 + (b - 48) < 2 ^ 64 → decimal (n * 10 + (b - 48)) ≡ decimal n ++ b ∷ []
decimal_on n b some low high small =
    let m : ℕ = n * 10 + (b - 48) in
    let front : m / 10 ≡ n = omega (arith, low, high) in
    let end : 48 + m % 10 ≡ b = omega (arith, low, high) in
    decimal_step m (omega (arith, some)) small ∙ (λ i. decimal (front i) ++ (end i ∷ []))

decimal_first : (n b : ℕ) → n ≡ 0 → 48 ≤ b → b ≤ 57 → decimal (n * 10 + (b - 48)) ≡ b ∷ []
decimal_first n b none low high =
    let same : n * 10 + (b - 48) ≡ b - 48 = omega (arith, none) in
    let end : 48 + (b - 48) ≡ b = omega (arith, low) in
    ap decimal same ∙ decimal_digit (b - 48) (omega (arith, high)) ∙ (λ i. end i ∷ [])

pub digit_more : (bytes : List ℕ) (i n : ℕ) → i < length bytes → (i ≡ 0 → n ≡ 0) → (0 < i → take i bytes ≡ decimal n) → (0 < i → n ≡ 0 → ⊥)
    → 48 ≤ slice_index bytes i → slice_index bytes i ≤ 57 → n * 10 + (slice_index bytes i - 48) < 2 ^ 64 → take (i + 1) bytes ≡ decimal (n * 10 + (slice_index bytes i - 48))
digit_more bytes i n lt none same more low high small =
    let b = slice_index bytes i in
    elim (cases_lt 0 i) [
      | inl some ↦
          let positive : n ≡ 0 → ⊥ = more some in
          take_more bytes i 0 lt ∙ ap (λ ds. ds ++ b ∷ []) (same some) ∙ sym (decimal_on n b (omega (arith, positive)) low high small)
      | inr zero ↦
          let first : i ≡ 0 = omega (arith, zero) in
          take_more bytes i 0 lt ∙ ap (λ k. take k bytes ++ b ∷ []) first ∙ sym (decimal_first n b (none first) low high)
    ]

-- Where nothing of a request came, what stands whole at the front is a request.
none_left : (xs : List ℕ) → not (length xs == 0) ≡ false → xs ≡ []
none_left [] none = refl
none_left (b ∷ bs) none =
    let some : not (length (b ∷ bs) == 0) ≡ true = first_of (search rules, grind arith) in
    absurd (false≢true (sym none ∙ some))

nothing_came : (place : Place) (reader : Reader) (text : List ℕ) → IsAt place reader text → has_some place reader.part.items ≡ false → text ≡ []
nothing_came places.Front reader text at none = sym at.0 ∙ none_left reader.part.items none
nothing_came (places.Length left) reader text at none = absurd (false≢true (sym none))
nothing_came (places.Word left behind) reader text at none = absurd (false≢true (sym none))
nothing_came (places.End left) reader text at none = absurd (false≢true (sym none))

pub found_whole : (reader : Reader) (text bytes : List ℕ) (count : ℕ) (words : List (List ℕ)) → IsBehind text reader → has_some reader.place reader.part.items ≡ false
    → (0 < count) × (count ≤ length bytes) × IsArray words (take count bytes) × Fits reader.limits words
    → (count ≤ length bytes) × (0 < length bytes → 0 < count) × (IsWithin reader.limits words (text ++ take count bytes) × IsBehind [] reader)
found_whole reader text bytes count words behind none said =
    let nothing = nothing_came reader.place reader text behind.1 none in
    let back = sym nothing in (
      said.1,
      λ _. said.0,
      (
        subst (λ xs. IsWithin reader.limits words (xs ++ take count bytes)) back (inl (said.2, said.3)),
        subst (λ xs. IsBehind xs reader) nothing behind,
      ),
    )
