use Rattle.sk_requests.proofs.Names.{◌≡◌, ◌+◌, ◌-◌, ◌≤◌, [], ◌++◌, length, take, Ok, sym, ◌∙◌, ap, subst, arith}
use Rattle.sk_requests.proofs.Names.{length-append, append-nil, length-take-le, take-append-drop, err_from_is_err_and}
use Rattle.sk_requests.proofs.Names.{Keeps, IsAt, Reads, words_of}
use Rattle.sk_requests.specs.declared.place.Place.TheVariants as places
use Rattle.sk_requests.proofs.Steps.{word_on, at_word, slice_on}
use Rattle.sk_requests.proofs.reader.Reader.word.Goals as goal

pub word_end-requires-clause-place : goal.word_end-requires-clause-place
word_end-requires-clause-place c = c.requires.place ∙ ap (λ n. places.Word c.args.left n) c.if-behind-eq0.true

pub returns-in_err-add-clause-read : goal.returns-in_err-add-clause-read
returns-in_err-add-clause-read c =
    let old = c.args.self.now in
    let new = record old { part = c.add.new.part } in
    let p = err_from_is_err_and c.from_residual.result c.from_residual.ensures.1 in
    rw (p.1, p.2) (λ text behind.
    let at = subst (λ p. IsAt p old text) c.requires.place behind.1 in (
      behind.0,
      at_word new text c.args.left c.args.behind at.0 c.requires.place (record {
        array = record { words = at.1.array.words; array = at.1.array.array; keeps = at.1.array.keeps };
        short = at.1.short;
        part = λ yes. c.in_err-add.ensures.err ∙ at.1.part yes;
      }),
    ))

pub word_rest-requires-clause-some : goal.word_rest-requires-clause-some
word_rest-requires-clause-some c = omega (arith, c.min-count.ensures, c.if-behind-eq0.false, c.requires.some)

pub returns-clause-read : goal.returns-clause-read
returns-clause-read c = λ text behind.
    let old = c.args.self.now in
    let bytes = c.args.bytes.now in
    let left = c.args.left in
    let count = c.min-count.result in
    let chunk = take count bytes in
    let at = subst (λ p. IsAt p old text) c.requires.place behind.1 in
    let word = at.0 in
    let words = at.1.array.words in
    let within : count ≤ length bytes = omega (arith, c.min-count.ensures) in
    let same : length word + c.args.behind ≡ length (word ++ chunk) + (c.args.behind - count) = omega (arith, c.min-count.ensures, length-append word chunk, length-take-le count bytes within) in
    let read = c.word_rest.ensures.read text chunk (
      behind.0,
      (
        word ++ chunk,
        record {
          array = record {
            words = words;
            array = word_on words text left (length word + c.args.behind) (length (word ++ chunk) + (c.args.behind - count)) word [] chunk (word ++ chunk) [] same
                (ap (λ xs. xs ++ chunk) (append-nil word) ∙ sym (append-nil (word ++ chunk))) at.1.array.array;
            keeps = subst (λ n. Keeps old.limits (length words + left) n words old.keeping (words_of old.words.items) old.room) same at.1.array.keeps;
          };
          short = omega (arith, at.1.short, same);
          part = λ yes. c.in_ok-add.ensures.ok yes ∙ ap (λ xs. xs ++ chunk) (at.1.part yes);
        },
      ),
    ) (length-take-le count bytes within) in
    subst (λ xs. Reads text xs (Ok c.word_rest.result) c.word_rest.new.self)
    (ap (λ xs. chunk ++ xs) (slice_on bytes count) ∙ take-append-drop count bytes) read
