use Rattle.sk_requests.proofs.Names.{◌≡◌, ℕ, List, [], ◌∷◌, ◌++◌, length, sym, ◌∙◌, ap, eqb-true, false≢true, eq-eqb}
use Rattle.sk_requests.proofs.Names.{map-append, words_of}
use Rattle.sk_requests.proofs.Typed.{ended_none, ended_some}
use Rattle.sk_requests.proofs.line.end_word.Goals as goal

pub returns-then-is_empty : goal.returns-then-is_empty
returns-then-is_empty c =
    ended_none (words_of c.args.words.now.items) c.args.word.items
    (ap (λ (xs : List ℕ). length xs) (sym c.as_slice.ensures.value) ∙ eqb-true (length c.as_slice.result.now) 0 (sym c.is_empty.ensures ∙ c.if-is_empty.true))

pub returns : goal.returns
returns c =
    let some : length c.args.word.items ≡ 0 → ⊥ = λ none.
    false≢true (sym c.if-is_empty.false ∙ c.is_empty.ensures ∙ eq-eqb (length c.as_slice.result.now) 0 (ap (λ (xs : List ℕ). length xs) c.as_slice.ensures.value ∙ none)) in
    ap words_of c.in_ok-push.ensures.items
    ∙ map-append (λ w. w.items) c.args.words.now.items (c.args.word ∷ [])
    ∙ ap (λ ws. words_of c.args.words.now.items ++ ws) (sym (ended_some c.args.word.items some))
