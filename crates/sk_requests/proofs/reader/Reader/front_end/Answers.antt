use Rattle.sk_requests.proofs.Names.{◌≡◌, ℕ, ◌≤◌, List, [], ◌∷◌, ◌++◌, length, slice_index, refl, sym, ◌∙◌, ap, subst}
use Rattle.sk_requests.proofs.Names.{inr, arith, err_from_is_err_and, line_words, IsLine, IsAt}
use Rattle.sk_requests.proofs.Steps.{at_front, nothing_left, typed_first}
use Rattle.sk_requests.proofs.reader.Reader.front_end.Goals as goal

pub returns-then-first-eq42-clause-read : goal.returns-then-first-eq42-clause-read
returns-then-first-eq42-clause-read c = λ text more behind.
    let at = subst (λ p. IsAt p c.args.self.now text) c.requires behind.1 in
    c.count_end.ensures.read text more behind (ap (λ (xs : List ℕ). slice_index (xs ++ 10 ∷ []) 0) (sym (c.deref.ensures.value ∙ at.0)) ∙ sym c.first_of-first.ensures ∙ c.if-first-eq42.true)

pub returns-in_err-words-clause-read : goal.returns-in_err-words-clause-read
returns-in_err-words-clause-read c =
    let p = err_from_is_err_and c.from_residual.result c.from_residual.ensures.1 in
    rw (p.1, p.2) (λ text more behind. behind)

pub returns-clause-read : goal.returns-clause-read
returns-clause-read c = λ text more behind.
    let old = c.args.self.now in
    let new = record old { part = c.clear.new.self } in
    let at = subst (λ p. IsAt p old text) c.requires behind.1 in
    let other : slice_index (text ++ 10 ∷ []) 0 ≡ 42 → ⊥ = λ e.
    c.if-first-eq42.false (c.first_of-first.ensures ∙ ap (λ (xs : List ℕ). slice_index (xs ++ 10 ∷ []) 0) (c.deref.ensures.value ∙ at.0) ∙ e) in
    rw c.whole.ensures (
      omega arith,
      λ _. omega arith,
      (
        inr (record {
          line = text;
          one = subst IsLine at.0 at.1.0;
          short = subst (λ xs. length xs ≤ old.limits.line) at.0 at.1.1;
          first = typed_first text other;
          is = refl;
          words_are = c.in_ok-words.ensures ∙ ap line_words (c.deref-2.ensures.value ∙ at.0);
        }),
        (behind.0, at_front new [] c.requires c.clear.ensures.items (nothing_left c.clear.new.self.items old.limits.line c.clear.ensures.items)),
      ),
    )
