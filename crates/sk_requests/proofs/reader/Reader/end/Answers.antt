use Rattle.sk_requests.proofs.Names.{◌≡◌, ◌+◌, ◌-◌, [], ◌∷◌, ◌++◌, length, take, refl, sym, ◌∙◌, ap, subst, inl, arith}
use Rattle.sk_requests.proofs.Names.{err_from_is_err_and, IsWithin, InWords, Keeps, IsAt, words_of, IsArray}
use Rattle.sk_requests.proofs.Steps.{no_end, no_feed, take_one, word_next, word_last, keeps_next, keeps_fits, keeps_large, nothing_left, at_end}
use Rattle.sk_requests.proofs.reader.Reader.end.Goals as goal

pub returns-then-first-ne10-clause-read : goal.returns-then-first-ne10-clause-read
returns-then-first-ne10-clause-read c = λ text behind.
    let old = c.args.self.now in
    let bytes = c.args.bytes.now in
    let at = subst (λ p. IsAt p old text) c.requires.place behind.1 in
    (no_end old.limits at.1.array.words text c.args.left (length at.0) at.0 (13 ∷ []) bytes refl at.1.short at.1.array.array (no_feed bytes c.requires.some c.if-first-ne10.true), behind)

pub returns-in_err-keep-clause-read : goal.returns-in_err-keep-clause-read
returns-in_err-keep-clause-read c =
    let old = c.args.self.now in
    let left = c.args.left in
    let new = record old { part = c.keep.new.word; words = c.keep.new.words } in
    let p = err_from_is_err_and c.from_residual.result c.from_residual.ensures.1 in
    rw (p.1, p.2) (λ text behind.
    let at = subst (λ p. IsAt p old text) c.requires.place behind.1 in
    let words = at.1.array.words in (
      behind.0,
      at_end new text left at.0 c.requires.place (record {
        array = record {
          words = words;
          array = at.1.array.array;
          keeps = subst (λ ws. Keeps old.limits (length words + left) (length at.0) words old.keeping ws old.room) (sym c.in_err-keep.ensures.words) at.1.array.keeps;
        };
        short = at.1.short;
        part = λ yes. c.in_err-keep.ensures.word ∙ at.1.part yes;
      }),
    ))

pub returns-then-left-gt1-clause-read : goal.returns-then-left-gt1-clause-read
returns-then-left-gt1-clause-read c = λ text behind.
    let old = c.args.self.now in
    let bytes = c.args.bytes.now in
    let left = c.args.left in
    let at = subst (λ p. IsAt p old text) c.requires.place behind.1 in
    let word = at.0 in
    let words = at.1.array.words in
    let one : take 1 bytes ≡ 10 ∷ [] = take_one bytes 10 c.requires.some c.if-first-ne10.false in
    let none = c.in_ok-keep.ensures.none in
    rw c.part.ensures (
      omega (arith, c.requires.some),
      λ _. omega arith,
      (
        behind.0,
        (
          record {
            words = words ++ word ∷ [];
            array = subst (InWords (words ++ word ∷ []) (text ++ take 1 bytes) (left - 1)) (sym none)
                (subst (λ xs. InWords (words ++ word ∷ []) (text ++ xs) (left - 1) []) (sym one) (word_next words text left word at.1.short c.if-left-gt1.true at.1.array.array));
            keeps = keeps_next old.limits words left word old.keeping (words_of old.words.items) (words_of c.keep.new.words.items) old.room c.if-left-gt1.true at.1.array.keeps
                (λ yes. c.in_ok-keep.ensures.kept yes ∙ ap (λ w. words_of old.words.items ++ w ∷ []) (at.1.part yes));
          },
          nothing_left c.keep.new.word.items old.limits.line none,
        ),
      ),
    )

pub returns-then-not-self-clause-read : goal.returns-then-not-self-clause-read
returns-then-not-self-clause-read c = λ text behind.
    let old = c.args.self.now in
    let bytes = c.args.bytes.now in
    let left = c.args.left in
    let at = subst (λ p. IsAt p old text) c.requires.place behind.1 in
    let word = at.0 in
    let words = at.1.array.words in
    let one : take 1 bytes ≡ 10 ∷ [] = take_one bytes 10 c.requires.some c.if-first-ne10.false in
    let none = c.in_ok-keep.ensures.none in (
      omega (arith, c.requires.some),
      λ _. omega arith,
      (
        words ++ word ∷ [],
        subst (λ xs. IsArray (words ++ word ∷ []) (text ++ xs)) (sym one) (word_last words text left word at.1.short c.if-left-gt1.false at.1.array.array),
        keeps_large old.limits words left word old.keeping (words_of old.words.items) old.room c.if-left-gt1.false at.1.array.array.some at.1.array.keeps c.if-not-self.true,
        (behind.0, (none, nothing_left c.keep.new.word.items old.limits.line none)),
      ),
    )

pub returns-clause-read : goal.returns-clause-read
returns-clause-read c = λ text behind.
    let old = c.args.self.now in
    let bytes = c.args.bytes.now in
    let left = c.args.left in
    let at = subst (λ p. IsAt p old text) c.requires.place behind.1 in
    let word = at.0 in
    let words = at.1.array.words in
    let one : take 1 bytes ≡ 10 ∷ [] = take_one bytes 10 c.requires.some c.if-first-ne10.false in
    let none = c.in_ok-keep.ensures.none in
    let yes = c.if-not-self.false in
    let kept : words_of c.replace.result.items ≡ words ++ word ∷ [] =
    ap (λ v. words_of v.items) c.replace.ensures.value ∙ c.in_ok-keep.ensures.kept yes ∙ ap (λ w. words_of old.words.items ++ w ∷ []) (at.1.part yes) ∙ ap (λ ws. ws ++ word ∷ []) (at.1.array.keeps.same yes) in
    rw c.whole.ensures (
      omega (arith, c.requires.some),
      λ _. omega arith,
      (
        subst (λ ws. IsWithin old.limits ws (text ++ take 1 bytes)) (sym kept)
            (inl (
              subst (λ xs. IsArray (words ++ word ∷ []) (text ++ xs)) (sym one) (word_last words text left word at.1.short c.if-left-gt1.false at.1.array.array),
              keeps_fits old.limits words left word old.keeping (words_of old.words.items) old.room c.if-left-gt1.false at.1.array.array.some at.1.array.keeps yes,
            )),
        (behind.0, (none, nothing_left c.keep.new.word.items old.limits.line none)),
      ),
    )
