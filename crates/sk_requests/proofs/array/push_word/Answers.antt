use Rattle.sk_requests.proofs.Names.{[], ◌∷◌, ◌++◌, ◌∙◌, ap, refl, map-append, words_of}
use Rattle.sk_requests.proofs.array.push_word.Goals as goal

pub returns : goal.returns
returns c =
    let word = c.in-Some.word.now in
    let said = c.in-Some.ensures in
    let kept = c.in_ok-extend_from_slice.ensures.items ∙ ap (λ xs. xs ++ word) c.new-kept.ensures.items in (
      word,
      ap words_of c.in_ok-push.ensures.items
          ∙ map-append (λ w. w.items) c.args.words.now.items (c.extend_from_slice.new.self ∷ [])
          ∙ ap (λ w. words_of c.args.words.now.items ++ w ∷ []) kept,
      refl,
      said.1,
      said.2,
      said.0,
      said.3,
    )
