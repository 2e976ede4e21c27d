use Rattle.sk_requests.proofs.Names.{◌+◌, [], length, take, subst, arith, IsAt, words_of}
use Rattle.sk_requests.proofs.Steps.{word_begins, keeps_room, keeps_no_room}
use Rattle.sk_requests.proofs.reader.Reader.word_next.Goals as goal

pub returns-then-size-self-clause-read : goal.returns-then-size-self-clause-read
returns-then-size-self-clause-read c = λ text bytes behind within is.
    let old = c.args.self.now in
    let size = c.args.size in
    let at = subst (λ p. IsAt p old text) c.requires.place behind.1 in
    rw c.part.ensures (
      within,
      λ _. c.requires.some,
      (
        behind.0,
        (
          [],
          record {
            array = record {
              words = at.0.words;
              array = word_begins at.0.words text c.args.left size old.part.items (take c.args.count bytes) at.0.array is;
              keeps = keeps_no_room old.limits (length at.0.words + c.args.left) size at.0.words old.keeping
                  (words_of old.words.items) (words_of c.clear-then-size-self.new.self.items) old.room at.0.keeps c.if-size-self.true;
            };
            short = omega (arith, c.requires.short);
            part = λ _. c.clear.ensures.items;
          },
        ),
      ),
    )

pub returns-clause-read : goal.returns-clause-read
returns-clause-read c = λ text bytes behind within is.
    let old = c.args.self.now in
    let size = c.args.size in
    let at = subst (λ p. IsAt p old text) c.requires.place behind.1 in
    rw c.part-2.ensures (
      within,
      λ _. c.requires.some,
      (
        behind.0,
        (
          [],
          record {
            array = record {
              words = at.0.words;
              array = word_begins at.0.words text c.args.left size old.part.items (take c.args.count bytes) at.0.array is;
              keeps = keeps_room old.limits (length at.0.words + c.args.left) size at.0.words old.keeping
                  (words_of old.words.items) old.room at.0.keeps c.if-size-self.false;
            };
            short = omega (arith, c.requires.short);
            part = λ _. c.clear.ensures.items;
          },
        ),
      ),
    )
