-- What each step of a reader leaves.
use Rattle.sk_requests.proofs.Names.{◌≡◌, ◌≢◌, ◌⊎◌, ℕ, zero, suc, ◌+◌, ◌-◌, ◌<◌, ◌≤◌, ◌^◌, Bool, true, false, List, []}
use Rattle.sk_requests.proofs.Names.{◌∷◌, ◌++◌, length, slice_index, take, drop, Err, refl, sym, ◌∙◌, ap, subst, inl}
use Rattle.sk_requests.proofs.Names.{inr, arith, length-append, cond, eqb, if◌then◌else◌, ◌==◌, append_assoc}
use Rattle.sk_requests.proofs.Names.{append-nil, take-append-drop, take_all, length-drop, length-take-le, false≢true}
use Rattle.sk_requests.proofs.Names.{eqb-true, eqb-false, IsLine, said, head, bulk, bulks, AreWords, total, IsArray}
use Rattle.sk_requests.proofs.Names.{IsTooLarge, Fits, InWords, NoHead, NoLine, NoEnd, HasFault, Keeps, InArray, InWord}
use Rattle.sk_requests.proofs.Names.{KeepsLine, IsAt, IsBehind, Reads, Reader, Limits, Count, Line, Length, Mark, End}
use Rattle.sk_requests.proofs.Names.{Refusal}
use Rattle.sk_requests.specs.declared.place.Place.TheVariants as places
use Rattle.sk_requests.specs.declared.fault.Refusal.TheVariants as refusals
use Rattle.sk_requests.proofs.Lines.{ends_behind, line-append, long_head, other_head}

pub begins_with : (bytes : List ℕ) → 0 < length bytes → bytes ≡ slice_index bytes 0 ∷ drop 1 bytes
begins_with [] some = absurd (omega (arith, some))
begins_with (b ∷ bytes) some = refl

pub take_one : (bytes : List ℕ) (b : ℕ) → 0 < length bytes → slice_index bytes 0 ≡ b → take 1 bytes ≡ b ∷ []
take_one [] b some is = absurd (omega (arith, some))
take_one (c ∷ bytes) b some is = λ i. is i ∷ []

-- A line goes on.
pub line_on : (part chunk new : List ℕ) (limit : ℕ) → IsLine part × (length part ≤ limit) → IsLine chunk → new ≡ part ++ chunk → (length part ≤ limit → length new ≤ limit) → IsLine new × (length new ≤ limit)
line_on part chunk new limit keeps one is short = (subst IsLine (sym is) (line-append part chunk keeps.0 one), short keeps.1)

pub nothing_left : (new : List ℕ) (limit : ℕ) → new ≡ [] → IsLine new × (length new ≤ limit)
nothing_left new limit none = (λ i lt e. omega (arith, lt, ap length none), omega (arith, ap length none))

-- The bytes of a line that is too long.
pub record IsLong (bytes : List ℕ) (limit : ℕ) : Type 0 where
  pub line : List ℕ
  pub rest : List ℕ
  pub is : bytes ≡ line ++ rest
  pub one : IsLine line
  pub long : limit < length line

pub too_long : (part bytes : List ℕ) (limit n : ℕ) → IsLine part → n ≤ length bytes → IsLine (take n bytes) → limit < length part + n → IsLong (part ++ bytes) limit
too_long part bytes limit n one within two long = record {
  line = part ++ take n bytes;
  rest = drop n bytes;
  is = ap (λ xs. part ++ xs) (sym (take-append-drop n bytes)) ∙ sym (append_assoc part (take n bytes) (drop n bytes));
  one = line-append part (take n bytes) one two;
  long = omega (arith, long, length-append part (take n bytes), length-take-le n bytes within);
}

pub long_no_head : (mark limit top : ℕ) (bytes : List ℕ) → limit < 2 ^ 32 → 16 ≤ top → IsLong bytes top → NoHead mark limit bytes
long_no_head mark limit top bytes low high l = subst (NoHead mark limit) (sym l.is) (long_head mark limit l.line l.rest low l.one (omega (arith, l.long, high)))

long_no_line : (limits : Limits) (bytes : List ℕ) → IsLong bytes limits.line → NoLine limits bytes
long_no_line limits bytes l line later more one short is =
    omega (
      arith,
      l.long,
      short,
      ends_behind l.line (l.rest ++ later) line more l.one (sym (append_assoc l.line l.rest later) ∙ ap (λ xs. xs ++ later) (sym l.is) ∙ is),
    )

-- the first byte of a line, of which a part came before
pub first_same : (part bytes : List ℕ) (first : ℕ) → bytes ≡ first ∷ drop 1 bytes → slice_index (part ++ first ∷ []) 0 ≡ slice_index (part ++ bytes) 0
first_same [] bytes first is = ap (λ (xs : List ℕ). slice_index xs 0) (sym is)
first_same (b ∷ part) bytes first is = refl

front_fault_of : (limits : Limits) (b : ℕ) (bytes : List ℕ) → b ≡ slice_index bytes 0 → NoHead 42 (2 ^ 31 - 1) bytes → NoLine limits bytes → HasFault limits (if b == 42 then Count else Line) bytes
front_fault_of limits b bytes same no_head no_line =
    elim (eqb b 42) as (λ v. eqb b 42 ≡ v → HasFault limits (cond v Count Line) bytes) [
      | true ↦ λ e. (sym same ∙ eqb-true b 42 e, no_head)
      | false ↦ λ e. (λ is. eqb-false b 42 e (same ∙ is), no_line)
    ] refl

-- The first line of a request is too long.
pub front_long : (limits : Limits) (part text bytes : List ℕ) (n : ℕ) → part ≡ text → IsLine part → 16 ≤ limits.line → 0 < length bytes
    → n ≤ length bytes → IsLine (take n bytes) → limits.line < length part + n
    → HasFault limits (if slice_index (part ++ slice_index bytes 0 ∷ []) 0 == 42 then Count else Line) (text ++ bytes)
front_long limits part text bytes n same one high some within two long =
    let first = slice_index bytes 0 in
    let b = slice_index (part ++ first ∷ []) 0 in
    let l = too_long part bytes limits.line n one within two long in
    subst (λ xs. HasFault limits (if b == 42 then Count else Line) (xs ++ bytes)) same
    (front_fault_of limits b (part ++ bytes) (first_same part bytes first (begins_with bytes some)) (long_no_head 42 (2 ^ 31 - 1) limits.line (part ++ bytes) (omega arith) high l) (long_no_line limits (part ++ bytes) l))

rest_is : (b : ℕ) (rest : List ℕ) → b ≡ slice_index rest 0 → 0 < length rest → rest ≡ b ∷ drop 1 rest
rest_is b [] same some = absurd (omega (arith, some))
rest_is b (c ∷ rest) same some = let back = sym same in λ i. back i ∷ rest

length_fault_of : (limits : Limits) (words : List (List ℕ)) (left b : ℕ) (bytes rest : List ℕ) → InWords words bytes left rest → b ≡ slice_index rest 0 → 0 < length rest → NoHead 36 (2 ^ 29) rest
    → HasFault limits (if b == 36 then Length else Mark b) bytes
length_fault_of limits words left b bytes rest inside same some none =
    elim (eqb b 36) as (λ v. eqb b 36 ≡ v → HasFault limits (cond v Length (Mark b)) bytes) [
      | true ↦ λ e. (words, left, rest, inside, sym same ∙ eqb-true b 36 e, none)
      | false ↦ λ e. (words, left, drop 1 rest, subst (InWords words bytes left) (rest_is b rest same some) inside, eqb-false b 36 e)
    ] refl

-- More bytes came behind some words.
pub words_on : (words : List (List ℕ)) (text : List ℕ) (left : ℕ) (rest more : List ℕ) → InWords words text left rest → InWords words (text ++ more) left (rest ++ more)
words_on words text left rest more inside =
    let count = length words + left in
    record {
      some = inside.some;
      few = inside.few;
      each = inside.each;
      begins = ap (λ xs. xs ++ more) inside.begins ∙ append_assoc (head 42 count) (bulks words ++ rest) more ∙ ap (λ xs. head 42 count ++ xs) (append_assoc (bulks words) rest more);
    }

-- The line before a word is too long.
pub length_long : (limits : Limits) (words : List (List ℕ)) (left : ℕ) (part text bytes : List ℕ) (n : ℕ) → InWords words text left part → IsLine part → 16 ≤ limits.line → 0 < length bytes
    → n ≤ length bytes → IsLine (take n bytes) → limits.line < length part + n
    → HasFault limits (if slice_index (part ++ slice_index bytes 0 ∷ []) 0 == 36 then Length else Mark (slice_index (part ++ slice_index bytes 0 ∷ []) 0)) (text ++ bytes)
length_long limits words left part text bytes n inside one high some within two long =
    let first = slice_index bytes 0 in
    let l = too_long part bytes limits.line n one within two long in
    length_fault_of limits words left (slice_index (part ++ first ∷ []) 0) (text ++ bytes) (part ++ bytes) (words_on words text left part bytes inside) (first_same part bytes first (begins_with bytes some))
    (omega (arith, ap length l.is, length-append l.line l.rest, l.long)) (long_no_head 36 (2 ^ 29) limits.line (part ++ bytes) (omega arith) high l)

-- It says no number of bytes.
pub length_none : (limits : Limits) (words : List (List ℕ)) (left : ℕ) (part text more : List ℕ) → InWords words text left part → IsLine part → ((n : ℕ) → n ≤ 2 ^ 29 → part ≡ said 36 n → ⊥)
    → HasFault limits (if slice_index (part ++ 10 ∷ []) 0 == 36 then Length else Mark (slice_index (part ++ 10 ∷ []) 0)) (text ++ 10 ∷ more)
length_none limits words left part text more inside one none =
    length_fault_of limits words left (slice_index (part ++ 10 ∷ []) 0) (text ++ 10 ∷ more) (part ++ 10 ∷ more) (words_on words text left part (10 ∷ more) inside) (first_same part (10 ∷ more) 10 refl)
    (omega (arith, length-append part (10 ∷ more))) (other_head 36 (2 ^ 29) part more (λ e. omega (arith, e)) (omega arith) one none)

-- The first line says no number of words.
pub count_none : (limits : Limits) (part text more : List ℕ) → part ≡ text → IsLine part → slice_index (text ++ 10 ∷ []) 0 ≡ 42 → ((n : ℕ) → n ≤ 2 ^ 31 - 1 → part ≡ said 42 n → ⊥) → HasFault limits Count (text ++ 10 ∷ more)
count_none limits part text more same one first none = (
  sym (first_same text (10 ∷ more) 10 refl) ∙ first,
  subst (λ xs. NoHead 42 (2 ^ 31 - 1) (xs ++ 10 ∷ more)) same (other_head 42 (2 ^ 31 - 1) part more (λ e. omega (arith, e)) (omega arith) one none),
)

-- It says that there are no words.
pub no_words : (limits : Limits) (part text : List ℕ) → part ≡ text → part ≡ said 42 0 → IsArray [] (text ++ 10 ∷ []) × Fits limits []
no_words limits part text same is = (
  record {
    few = omega arith;
    each = tt;
    is = ap (λ xs. xs ++ 10 ∷ []) (sym same ∙ is) ∙ sym (append-nil (head 42 0));
  },
  (omega arith, omega arith),
)

-- It says how many there are.
pub some_words : (count : ℕ) (part text : List ℕ) → part ≡ text → part ≡ said 42 count → 0 < count → count ≤ 2 ^ 31 - 1 → InWords [] (text ++ 10 ∷ []) count []
some_words count part text same is some few =
    let plain : count ≡ 0 + count = omega arith in
    record {
      some = some;
      few = omega (arith, few);
      each = tt;
      begins = ap (λ xs. xs ++ 10 ∷ []) (sym same ∙ is) ∙ sym (append-nil (head 42 count)) ∙ ap (λ n. head 42 n ++ []) plain;
    }

-- The room for words at the front of a request.
pub keeps_none : (limits : Limits) (count : ℕ) (keeping : Bool) (kept : List (List ℕ)) (room : ℕ) → (keeping ≡ true → count ≤ limits.words) → (keeping ≡ false → limits.words < count) → kept ≡ [] → room ≡ limits.bytes
    → Keeps limits (0 + count) 0 [] keeping kept room
keeps_none limits count keeping kept room within beyond none all = record {
  same = λ _. none;
  within = λ yes. omega (arith, within yes);
  adds = λ _. omega (arith, all);
  large = λ no. inl (omega (arith, beyond no));
}

-- There is room for a word.
pub keeps_room : (limits : Limits) (count size : ℕ) (words : List (List ℕ)) (keeping : Bool) (kept : List (List ℕ)) (room : ℕ) → Keeps limits count 0 words keeping kept room → size ≤ room
    → Keeps limits count (0 + size) words keeping kept (room - size)
keeps_room limits count size words keeping kept room keeps few = record {
  same = keeps.same;
  within = keeps.within;
  adds = λ yes. omega (arith, keeps.adds yes, few);
  large = λ no. elim (keeps.large no) [ inl many ↦ inl many | inr long ↦ inr (omega (arith, long)) ];
}

-- There is none.
pub keeps_no_room : (limits : Limits) (count size : ℕ) (words : List (List ℕ)) (keeping : Bool) (kept left : List (List ℕ)) (room : ℕ) → Keeps limits count 0 words keeping kept room → room < size
    → Keeps limits count (0 + size) words false left room
keeps_no_room limits count size words keeping kept left room keeps long = record {
  same = λ wrong. absurd (false≢true wrong);
  within = λ wrong. absurd (false≢true wrong);
  adds = λ wrong. absurd (false≢true wrong);
  large = λ _. elim keeping as (λ v. keeping ≡ v → (limits.words < count) ⊎ (limits.bytes < total words + (0 + size))) [
    | true ↦ λ yes. inr (omega (arith, keeps.adds yes, long))
    | false ↦ λ no. elim (keeps.large no) [ inl many ↦ inl many | inr over ↦ inr (omega (arith, over)) ]
  ] refl;
}

-- The line before a word says how long it is.
pub word_begins : (words : List (List ℕ)) (text : List ℕ) (left size : ℕ) (part chunk : List ℕ)
    → InWords words text left part → part ++ chunk ≡ head 36 size → InWords words (text ++ chunk) left (head 36 (0 + size) ++ ([] ++ []))
word_begins words text left size part chunk inside is =
    let plain : size ≡ 0 + size = omega arith in
    subst (InWords words (text ++ chunk) left) (is ∙ sym (append-nil (head 36 size)) ∙ ap (λ n. head 36 n ++ []) plain)
    (words_on words text left part chunk inside)

-- Bytes of a word came, or what stands behind it.
pub word_on : (words : List (List ℕ)) (text : List ℕ) (left size size' : ℕ) (word behind chunk word' behind' : List ℕ) → size ≡ size' → (word ++ behind) ++ chunk ≡ word' ++ behind' → InWords words text left (head 36 size ++ (word ++ behind))
    → InWords words (text ++ chunk) left (head 36 size' ++ (word' ++ behind'))
word_on words text left size size' word behind chunk word' behind' same is inside =
    subst (InWords words (text ++ chunk) left) (append_assoc (head 36 size) (word ++ behind) chunk ∙ (λ i. head 36 (same i) ++ is i))
    (words_on words text left (head 36 size ++ (word ++ behind)) chunk inside)

-- No end of a line stands behind a word.
pub no_end : (limits : Limits) (words : List (List ℕ)) (text : List ℕ) (left size : ℕ) (word behind chunk : List ℕ) → size ≡ length word → size ≤ 2 ^ 29 → InWords words text left (head 36 size ++ (word ++ behind))
    → NoEnd (behind ++ chunk) → HasFault limits End (text ++ chunk)
no_end limits words text left size word behind chunk same short inside none =
    (words, left, word, behind ++ chunk, word_on words text left size (length word) word behind chunk word (behind ++ chunk) same (append_assoc word behind chunk) inside, omega (arith, same, short), none)

pub no_return : (bytes : List ℕ) → 0 < length bytes → slice_index bytes 0 ≢ 13 → NoEnd bytes
no_return [] some ne later more e = omega (arith, some)
no_return (b ∷ bytes) some ne later more e = ne (ap (λ (xs : List ℕ). slice_index xs 0) e)

pub no_feed : (bytes : List ℕ) → 0 < length bytes → slice_index bytes 0 ≢ 10 → NoEnd (13 ∷ bytes)
no_feed [] some ne later more e = omega (arith, some)
no_feed (b ∷ bytes) some ne later more e = ne (ap (λ (xs : List ℕ). slice_index xs 1) e)

-- A typed line doesn't begin with `*`.
pub typed_first : (text : List ℕ) → (slice_index (text ++ 10 ∷ []) 0 ≡ 42 → ⊥) → slice_index text 0 ≢ 42
typed_first [] ne e = omega (arith, e)
typed_first (b ∷ bytes) ne e = ne e

-- Where a reader is, told by its place.
pub at_front : (reader : Reader) (text : List ℕ) → reader.place ≡ places.Front → reader.part.items ≡ text → KeepsLine reader → IsAt reader.place reader text
at_front reader text place is keeps = subst (λ p. IsAt p reader text) (sym place) (is, keeps)

pub at_length : (reader : Reader) (text : List ℕ) (left : ℕ) → reader.place ≡ places.Length left → InArray reader text left 0 reader.part.items → KeepsLine reader → IsAt reader.place reader text
at_length reader text left place inside keeps = subst (λ p. IsAt p reader text) (sym place) (inside, keeps)

pub at_word : (reader : Reader) (text : List ℕ) (left behind : ℕ) (word : List ℕ) → reader.place ≡ places.Word left behind → InWord reader text left (length word + behind) word [] → IsAt reader.place reader text
at_word reader text left behind word place inside = subst (λ p. IsAt p reader text) (sym place) (word, inside)

pub at_end : (reader : Reader) (text : List ℕ) (left : ℕ) (word : List ℕ) → reader.place ≡ places.End left → InWord reader text left (length word) word (13 ∷ []) → IsAt reader.place reader text
at_end reader text left word place inside = subst (λ p. IsAt p reader text) (sym place) (word, inside)

pub bulks-push : (words : List (List ℕ)) (word : List ℕ) → bulks (words ++ word ∷ []) ≡ bulks words ++ bulk word
bulks-push [] word = append-nil (bulk word)
bulks-push (w ∷ words) word = ap (λ xs. bulk w ++ xs) (bulks-push words word) ∙ sym (append_assoc (bulk w) (bulks words) (bulk word))

pub total-push : (words : List (List ℕ)) (word : List ℕ) → total (words ++ word ∷ []) ≡ total words + length word
total-push [] word = omega arith
total-push (w ∷ words) word = omega (arith, total-push words word)

pub each-push : (words : List (List ℕ)) (word : List ℕ) → AreWords words → length word ≤ 2 ^ 29 → AreWords (words ++ word ∷ [])
each-push [] word each short = (short, tt)
each-push (w ∷ words) word each short = (each.0, each-push words word each.1 short)

-- A word is whole.
word_ends : (words : List (List ℕ)) (text : List ℕ) (left : ℕ) (word : List ℕ) → InWords words text left (head 36 (length word) ++ (word ++ 13 ∷ []))
    → text ++ 10 ∷ [] ≡ head 42 (length words + left) ++ bulks (words ++ word ∷ [])
word_ends words text left word inside =
    (words_on words text left (head 36 (length word) ++ (word ++ 13 ∷ [])) (10 ∷ []) inside).begins
    ∙ ap (λ xs. head 42 (length words + left) ++ (bulks words ++ xs)) (append_assoc (head 36 (length word)) (word ++ 13 ∷ []) (10 ∷ []) ∙ ap (λ xs. head 36 (length word) ++ xs) (append_assoc word (13 ∷ []) (10 ∷ [])))
    ∙ ap (λ xs. head 42 (length words + left) ++ xs) (sym (bulks-push words word))

-- More words are to come behind it.
pub word_next : (words : List (List ℕ)) (text : List ℕ) (left : ℕ) (word : List ℕ) → length word ≤ 2 ^ 29 → 1 < left → InWords words text left (head 36 (length word) ++ (word ++ 13 ∷ []))
    → InWords (words ++ word ∷ []) (text ++ 10 ∷ []) (left - 1) []
word_next words text left word short more inside =
    let count : length words + left ≡ length (words ++ word ∷ []) + (left - 1) = omega (arith, length-append words (word ∷ []), more) in
    record {
      some = omega (arith, more);
      few = omega (arith, inside.few, count);
      each = each-push words word inside.each short;
      begins = word_ends words text left word inside ∙ (λ i. head 42 (count i) ++ bulks (words ++ word ∷ [])) ∙ ap (λ xs. head 42 (length (words ++ word ∷ []) + (left - 1)) ++ xs) (sym (append-nil (bulks (words ++ word ∷ []))));
    }

-- It was the last one.
pub word_last : (words : List (List ℕ)) (text : List ℕ) (left : ℕ) (word : List ℕ) → length word ≤ 2 ^ 29 → left ≤ 1 → InWords words text left (head 36 (length word) ++ (word ++ 13 ∷ []))
    → IsArray (words ++ word ∷ []) (text ++ 10 ∷ [])
word_last words text left word short last inside =
    let count : length words + left ≡ length (words ++ word ∷ []) = omega (arith, length-append words (word ∷ []), last, inside.some) in
    record {
      few = omega (arith, inside.few, count);
      each = each-push words word inside.each short;
      is = word_ends words text left word inside ∙ (λ i. head 42 (count i) ++ bulks (words ++ word ∷ []));
    }

pub keeps_next : (limits : Limits) (words : List (List ℕ)) (left : ℕ) (word : List ℕ) (keeping : Bool) (kept kept' : List (List ℕ)) (room : ℕ) → 1 < left → Keeps limits (length words + left) (length word) words keeping kept room
    → (keeping ≡ true → kept' ≡ kept ++ word ∷ []) → Keeps limits (length (words ++ word ∷ []) + (left - 1)) 0 (words ++ word ∷ []) keeping kept' room
keeps_next limits words left word keeping kept kept' room more keeps push =
    let count : length words + left ≡ length (words ++ word ∷ []) + (left - 1) = omega (arith, length-append words (word ∷ []), more) in
    record {
      same = λ yes. push yes ∙ ap (λ xs. xs ++ word ∷ []) (keeps.same yes);
      within = λ yes. omega (arith, keeps.within yes, count);
      adds = λ yes. omega (arith, keeps.adds yes, total-push words word);
      large = λ no. elim (keeps.large no) [ inl many ↦ inl (omega (arith, many, count)) | inr long ↦ inr (omega (arith, long, total-push words word)) ];
    }

pub keeps_fits : (limits : Limits) (words : List (List ℕ)) (left : ℕ) (word : List ℕ) (keeping : Bool) (kept : List (List ℕ)) (room : ℕ) → left ≤ 1 → 0 < left → Keeps limits (length words + left) (length word) words keeping kept room → keeping ≡ true
    → Fits limits (words ++ word ∷ [])
keeps_fits limits words left word keeping kept room last some keeps whole = (
  omega (arith, keeps.within whole, length-append words (word ∷ []), last, some),
  omega (arith, keeps.adds whole, total-push words word),
)

pub keeps_large : (limits : Limits) (words : List (List ℕ)) (left : ℕ) (word : List ℕ) (keeping : Bool) (kept : List (List ℕ)) (room : ℕ) → left ≤ 1 → 0 < left → Keeps limits (length words + left) (length word) words keeping kept room → keeping ≡ false
    → IsTooLarge limits (words ++ word ∷ [])
keeps_large limits words left word keeping kept room last some keeps lost =
    elim (keeps.large lost) [
      | inl many ↦ inl (omega (arith, many, length-append words (word ∷ []), last, some))
      | inr long ↦ inr (omega (arith, long, total-push words word))
    ]

-- More is taken behind some bytes.
pub take_on : (front rest : List ℕ) (m n : ℕ) → m ≡ length front + n → take m (front ++ rest) ≡ front ++ take n rest
take_on [] rest m n is =
    let same : m ≡ n = omega (arith, is) in
    ap (λ k. take k rest) same
take_on (b ∷ front) rest zero n is = absurd (omega (arith, is))
take_on (b ∷ front) rest (suc m) n is = ap (λ xs. b ∷ xs) (take_on front rest m n (omega (arith, is)))

-- The rest of bytes, as a slice has it.
pub slice_on : (bytes : List ℕ) (n : ℕ) → take (length bytes - n) (drop n bytes) ≡ drop n bytes
slice_on bytes n = take_all (length bytes - n) (drop n bytes) (omega (arith, length-drop n bytes))

-- A reader that refuses is where it was.
pub stays_behind : (text bytes : List ℕ) (refusal : Refusal) (reader : Reader) → Reads text bytes (Err refusal) reader → IsBehind text reader
stays_behind text bytes (refusals.Fault fault) reader is = is.1
stays_behind text bytes refusals.Memory reader is = is
