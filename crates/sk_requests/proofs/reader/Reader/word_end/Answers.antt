use Rattle.sk_requests.proofs.Names.{◌≡◌, ◌+◌, [], ◌∷◌, ◌++◌, length, take, ◌∙◌, ap, subst, arith, append-nil, Keeps}
use Rattle.sk_requests.proofs.Names.{IsAt, words_of}
use Rattle.sk_requests.proofs.Steps.{word_on, no_end, no_return, take_one}
use Rattle.sk_requests.proofs.reader.Reader.word_end.Goals as goal

pub returns-then-first-ne13-clause-read : goal.returns-then-first-ne13-clause-read
returns-then-first-ne13-clause-read c = λ text behind.
    let old = c.args.self.now in
    let bytes = c.args.bytes.now in
    let at = subst (λ p. IsAt p old text) c.requires.place behind.1 in (
      no_end old.limits at.1.array.words text c.args.left (length at.0 + 0) at.0 [] bytes (omega arith) at.1.short at.1.array.array (no_return bytes c.requires.some c.if-first-ne13.true),
      behind,
    )

pub returns-clause-read : goal.returns-clause-read
returns-clause-read c = λ text behind.
    let old = c.args.self.now in
    let bytes = c.args.bytes.now in
    let left = c.args.left in
    let at = subst (λ p. IsAt p old text) c.requires.place behind.1 in
    let word = at.0 in
    let words = at.1.array.words in
    let same : length word + 0 ≡ length word = omega arith in
    let one : take 1 bytes ≡ 13 ∷ [] = take_one bytes 13 c.requires.some c.if-first-ne13.false in
    rw c.part.ensures (
      omega (arith, c.requires.some),
      λ _. omega arith,
      (
        behind.0,
        (
          word,
          record {
            array = record {
              words = words;
              array = word_on words text left (length word + 0) (length word) word [] (take 1 bytes) word (13 ∷ []) same (ap (λ xs. xs ++ take 1 bytes) (append-nil word) ∙ ap (λ xs. word ++ xs) one) at.1.array.array;
              keeps = subst (λ n. Keeps old.limits (length words + left) n words old.keeping (words_of old.words.items) old.room) same at.1.array.keeps;
            };
            short = omega (arith, at.1.short);
            part = at.1.part;
          },
        ),
      ),
    )
