use Rattle.sk_requests.proofs.Names.{◌≡◌, ◌<◌, false, [], ◌∷◌, ◌++◌, refl, sym, ◌∙◌, ap, subst, inl, inr, arith}
use Rattle.sk_requests.proofs.Names.{false≢true, cases_lt, said, IsWithin, InWords, IsAt, words_of}
use Rattle.sk_requests.proofs.Steps.{at_front, nothing_left, count_none, no_words, some_words, keeps_none}
use Rattle.sk_requests.proofs.reader.Reader.count_end.Goals as goal

pub returns-in_default-clause-read : goal.returns-in_default-clause-read
returns-in_default-clause-read c = λ text more behind first.
    let old = c.args.self.now in
    let at = subst (λ p. IsAt p old text) c.requires behind.1 in
    (count_none old.limits old.part.items text more at.0 at.1.0 first (λ n small is. c.number_in.ensures.none c.in_default.is n small (c.deref.ensures.value ∙ is)), behind)

pub returns-then-count-eq0-clause-read : goal.returns-then-count-eq0-clause-read
returns-then-count-eq0-clause-read c = λ text more behind first.
    let old = c.args.self.now in
    let new = record old { part = c.clear.new.self } in
    let at = subst (λ p. IsAt p old text) c.requires behind.1 in
    let is : old.part.items ≡ said 42 0 = sym c.deref.ensures.value ∙ c.in-Some.ensures.some.1 ∙ ap (said 42) c.if-count-eq0.true in
    rw c.whole.ensures (
      omega arith,
      λ _. omega arith,
      (
        subst (λ ws. IsWithin old.limits (words_of ws) (text ++ 10 ∷ [])) (sym c.new.ensures.items) (inl (no_words old.limits old.part.items text at.0 is)),
        (behind.0, at_front new [] c.requires c.clear.ensures.items (nothing_left c.clear.new.self.items old.limits.line c.clear.ensures.items)),
      ),
    )

pub returns-clause-read : goal.returns-clause-read
returns-clause-read c = λ text more behind first.
    let old = c.args.self.now in
    let count = c.in-Some.count in
    let at = subst (λ p. IsAt p old text) c.requires behind.1 in
    let is : old.part.items ≡ said 42 count = sym c.deref.ensures.value ∙ c.in-Some.ensures.some.1 in
    let some : 0 < count = omega (arith, c.if-count-eq0.false) in
    let beyond : c.is_within-self.result ≡ false → old.limits.words < count = λ no. elim (cases_lt old.limits.words count) [ inl high ↦ high | inr low ↦ absurd (false≢true (sym no ∙ c.is_within-self.ensures.1 low)) ] in
    rw c.part.ensures (
      omega arith,
      λ _. omega arith,
      (
        behind.0,
        (
          record {
            words = [];
            array = subst (InWords [] (text ++ 10 ∷ []) count) (sym c.clear.ensures.items) (some_words count old.part.items text at.0 is some c.in-Some.ensures.some.0);
            keeps = keeps_none old.limits count c.is_within-self.result (words_of c.clear-2.new.self.items) old.limits.bytes (λ yes. c.is_within-self.ensures.0 yes) beyond (ap words_of c.clear-2.ensures.items) refl;
          },
          nothing_left c.clear.new.self.items old.limits.line c.clear.ensures.items,
        ),
      ),
    )
