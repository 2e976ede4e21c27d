use Rattle.sk_requests.proofs.Names.{◌≡◌, ℕ, ◌+◌, ◌<◌, ◌≤◌, List, [], ◌∷◌, ◌++◌, length, take, drop, sym, ◌∙◌, ap}
use Rattle.sk_requests.proofs.Names.{subst, arith, length-append, append_assoc, append-nil, take_at, Keeps, IsAt}
use Rattle.sk_requests.proofs.Names.{IsBehind, IsFound, Reads, words_of, Reader}
use Rattle.sk_requests.specs.declared.place.Place.TheVariants as places
use Rattle.sk_requests.proofs.Steps.{word_on, take_on, slice_on, stays_behind}
use Rattle.sk_requests.proofs.reader.Reader.word_rest.Goals as goal

-- nothing but the bytes of the word is taken
only_word : (text front rest : List ℕ) (count : ℕ) (reader : Reader) → 0 < count → IsBehind (text ++ front) reader → length front ≡ count
    → (count ≤ length (front ++ rest)) × (0 < length (front ++ rest) → 0 < count) × IsBehind (text ++ take count (front ++ rest)) reader
only_word text front rest count reader some behind len = (
  omega (arith, len, length-append front rest),
  λ _. some,
  subst (λ xs. IsBehind (text ++ xs) reader) (sym (take_at front rest count len)) behind,
)

-- the return behind the word came
at_return : (reader : Reader) (text : List ℕ) (left : ℕ) → IsBehind text reader → reader.place ≡ places.Word left 0
    → IsBehind (text ++ 13 ∷ []) (record reader { place = places.End left })
at_return reader text left behind place =
    let new = record reader { place = places.End left } in
    let at = subst (λ p. IsAt p reader text) place behind.1 in
    let word = at.0 in
    let words = at.1.array.words in
    let same : length word + 0 ≡ length word = omega arith in (
      behind.0,
      (
        word,
        record {
          array = record {
            words = words;
            array = word_on words text left (length word + 0) (length word) word [] (13 ∷ []) word (13 ∷ []) same
                (ap (λ xs. xs ++ 13 ∷ []) (append-nil word)) at.1.array.array;
            keeps = subst (λ n. Keeps reader.limits (length words + left) n words reader.keeping (words_of reader.words.items) reader.room) same
                at.1.array.keeps;
          };
          short = omega (arith, at.1.short);
          part = at.1.part;
        },
      ),
    )

-- what is taken behind the return
taken_on : (text front rest : List ℕ) (m n : ℕ) → m ≡ length front + 1 + n → rest ≡ 13 ∷ drop 1 rest
    → text ++ take m (front ++ rest) ≡ ((text ++ front) ++ 13 ∷ []) ++ take n (drop 1 rest)
taken_on text front rest m n all is =
    let one = front ++ 13 ∷ [] in
    let parts : front ++ rest ≡ one ++ drop 1 rest = ap (λ xs. front ++ xs) is ∙ sym (append_assoc front (13 ∷ []) (drop 1 rest)) in
    let len : m ≡ length one + n = omega (arith, all, length-append front (13 ∷ [])) in
    (λ i. text ++ take m (parts i)) ∙ ap (λ xs. text ++ xs) (take_on one (drop 1 rest) m n len)
    ∙ sym (append_assoc text one (take n (drop 1 rest)))
    ∙ ap (λ xs. xs ++ take n (drop 1 rest)) (sym (append_assoc text front (13 ∷ [])))

-- the rest, where it begins with the end of a line
return_first : (rest : List ℕ) → rest ≡ 13 ∷ 10 ∷ drop 2 rest → rest ≡ 13 ∷ drop 1 rest
return_first rest is = is ∙ ap (λ xs. 13 ∷ xs) (sym (ap (drop 1) is))

pub returns-then-behind-gt0-clause-read : goal.returns-then-behind-gt0-clause-read
returns-then-behind-gt0-clause-read c = λ text front behind len.
    rw c.part.ensures (only_word text front c.args.rest.now c.args.count c.args.self.now c.requires.some behind len)

pub returns-then-not-ends_line-clause-read : goal.returns-then-not-ends_line-clause-read
returns-then-not-ends_line-clause-read c = λ text front behind len.
    rw c.part-then-not-ends_line.ensures
    (only_word text front c.args.rest.now c.args.count c.args.self.now c.requires.some behind len)

pub returns-in-Ok-clause-read : goal.returns-in-Ok-clause-read
returns-in-Ok-clause-read c = λ text front behind len.
    let old = c.args.self.now in
    let new = c.end.new.self in
    let rest = c.args.rest.now in
    let taken = c.in-Ok.taken in
    let came = (text ++ front) ++ 13 ∷ [] in
    let is = return_first rest (c.ends_line.ensures c.if-not-ends_line.false) in
    let place = c.requires.place ∙ ap (λ n. places.Word c.args.left n) (omega (arith, c.if-behind-gt0.false)) in
    let read = c.end.ensures.read came (at_return old (text ++ front) c.args.left behind place) in
    let reads = subst (λ v. Reads came (drop 1 rest) v new) c.in-Ok.is (subst (λ xs. Reads came xs c.end.result new) (slice_on rest 1) read) in
    let all : c.saturating_add-all.result ≡ length front + 1 + taken.count =
    omega (arith, c.saturating_add-all.ensures, len, reads.0, c.requires.short, ap (λ (xs : List ℕ). length xs) is) in (
      omega (arith, all, reads.0, length-append front rest, ap (λ (xs : List ℕ). length xs) is),
      λ _. omega (arith, all),
      subst (λ xs. IsFound xs taken.found new) (sym (taken_on text front rest c.saturating_add-all.result taken.count all is)) reads.2,
    )

pub returns-in-Err-clause-read : goal.returns-in-Err-clause-read
returns-in-Err-clause-read c = λ text front behind len.
    let old = c.args.self.now in
    let new = c.end.new.self in
    let rest = c.args.rest.now in
    let came = (text ++ front) ++ 13 ∷ [] in
    let is = return_first rest (c.ends_line.ensures c.if-not-ends_line.false) in
    let place = c.requires.place ∙ ap (λ n. places.Word c.args.left n) (omega (arith, c.if-behind-gt0.false)) in
    let read = c.end.ensures.read came (at_return old (text ++ front) c.args.left behind place) in
    let reads = subst (λ v. Reads came (drop 1 rest) v new) c.in-Err.is (subst (λ xs. Reads came xs c.end.result new) (slice_on rest 1) read) in
    rw c.part-in-Err.ensures (
      omega (arith, len, length-append front rest, ap (λ (xs : List ℕ). length xs) is),
      λ _. omega arith,
      subst (λ xs. IsBehind xs new)
          (sym (taken_on text front rest (c.args.count + 1) 0 (omega (arith, len)) is ∙ append-nil came))
          (stays_behind came (drop 1 rest) c.in-Err._refusal new reads),
    )
