-- A word more is written.
use Rattle.sk_source.proofs.Names.{◌++◌, ◌∷◌, ◌∙◌, List, ℕ, sym, ap, append_assoc, Appends-trans, spelled}
use Rattle.sk_source.proofs.told.write_words.Goals as goal

pub loop-word-preserved : goal.loop-word-preserved
loop-word-preserved g c =
    let before = c.loop-word.invariant in
    let word = 32 ∷ c.in-Some.word.now in (
      before.0 ++ word,
      Appends-trans _ _ _ _ _ before.1 c.in_ok-write_word.ensures,
      before.2 ∙ ap (λ (ws : List (List ℕ)). before.0 ++ spelled ws) c.in-Some.ensures ∙ sym (append_assoc before.0 word (spelled c.next.new.self)),
    )
