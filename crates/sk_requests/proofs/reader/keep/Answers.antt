use Rattle.sk_requests.proofs.Names.{[], ◌∷◌, ◌++◌, sym, ◌∙◌, ap, false≢true, map-append, words_of}
use Rattle.sk_requests.proofs.reader.keep.Goals as goal

pub returns-then-not-keeping-clause-kept : goal.returns-then-not-keeping-clause-kept
returns-then-not-keeping-clause-kept c = λ yes. absurd (false≢true (sym c.if-not-keeping.true ∙ yes))

pub returns-clause-none : goal.returns-clause-none
returns-clause-none c = ap (λ w. w.items) c.replace.ensures.after ∙ c.new.ensures.items

pub returns-clause-kept : goal.returns-clause-kept
returns-clause-kept c = λ _.
    ap words_of c.push_reserved.ensures
    ∙ map-append (λ w. w.items) c.reserve.new.self.items (c.replace.result ∷ [])
    ∙ (λ i. words_of (c.in_ok-reserve.ensures.items i) ++ (c.replace.ensures.value i).items ∷ [])
