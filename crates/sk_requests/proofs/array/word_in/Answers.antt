use Rattle.sk_requests.proofs.Names.{◌≡◌, ◌+◌, ◌≤◌, List, ℕ, ◌∷◌, length, take, drop, sym, ◌∙◌, ap, subst, arith, length-drop, length-take-le, bulk}
use Rattle.sk_requests.proofs.Whole.{word_whole}
use Rattle.sk_requests.proofs.array.word_in.Goals as goal

pub head_in-requires : goal.head_in-requires
head_in-requires c = omega (arith, c.min.ensures)

pub returns : goal.returns
returns c =
    let bytes = c.args.bytes.now in
    let at = c.in_ok-at.at in
    let size = c.in_ok-at.size in
    let is = c.behind-rest.ensures in
    let said = c.in_ok-at.ensures in
    let fits : size ≤ length (drop at bytes) = subst (λ (xs : List ℕ). size ≤ length xs) is (omega (arith, c.if-rest-size.false)) in
    let rest : c.behind.result.now ≡ drop size (drop at bytes) = c.behind.ensures ∙ ap (drop size) is in
    let ends = subst (λ xs. xs ≡ 13 ∷ 10 ∷ drop 2 xs) rest (c.ends_line.ensures c.if-not-ends_line.false) in
    let len : length (take size c.behind-rest.result.now) ≡ size = ap (λ xs. length (take size xs)) is ∙ length-take-le size (drop at bytes) fits in (
      omega (arith, said.1, length-drop at bytes, length-drop size (drop at bytes), ap (λ (xs : List ℕ). length xs) ends),
      omega (arith, len, said.2, c.min.ensures),
      omega (arith, len, said.2, c.min.ensures),
      word_whole bytes at size (at + size + 2) said.1 said.3 fits ends (omega arith) ∙ ap (λ xs. bulk (take size xs)) (sym is),
    )
