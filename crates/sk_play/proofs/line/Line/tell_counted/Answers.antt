-- Nothing of the line stands behind its end.
use Rattle.sk_play.proofs.Names.{◌≡◌, ◌++◌, ◌∷◌, ◌∙◌, List, ℕ, [], ap, drop, decimal, subst, sym, append-nil, append_assoc}
use Rattle.sk_play.proofs.Names.{drop-length}
use Rattle.sk_play.proofs.line.Line.tell_counted.Goals as goal

pub returns : goal.returns
returns c =
    let old = c.self.inside.bytes in
    let none : drop 64 old ≡ [] = subst (λ (n : ℕ). drop n old ≡ []) c.self.told (drop-length old) in
    let front = decimal c.args.number ++ c.args.words.now in
    let back = decimal c.args.other ++ 10 ∷ [] in
    c.put-self-inside.ensures.line
    ∙ ap (λ (l : List ℕ). front ++ l) (c.put-end.ensures.line ∙ ap (λ (l : List ℕ). back ++ l) none ∙ append-nil back)
    ∙ sym (append_assoc front (decimal c.args.other) (10 ∷ []))
