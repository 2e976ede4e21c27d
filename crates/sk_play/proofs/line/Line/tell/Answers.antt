-- Nothing of the line stands behind its end.
use Rattle.sk_play.proofs.Names.{◌≡◌, ◌++◌, ℕ, [], drop, decimal, refl, subst, append-nil, drop-length}
use Rattle.sk_play.proofs.line.Line.tell.Goals as goal

pub returns : goal.returns
returns c =
    let old = c.self.inside.bytes in
    let none : drop 64 old ≡ [] = subst (λ (n : ℕ). drop n old ≡ []) c.self.told (drop-length old) in
    rw (c.put-self-inside.ensures.line, none, append-nil (decimal c.args.number ++ c.args.words.now)) refl
