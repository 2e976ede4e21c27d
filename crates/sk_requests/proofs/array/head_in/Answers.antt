use Rattle.sk_requests.proofs.Names.{◌≡◌, ◌≤◌, List, ℕ, ◌∷◌, length, take, drop, sym, ◌∙◌, ap, subst, arith, length-drop}
use Rattle.sk_requests.proofs.Whole.{head_whole}
use Rattle.sk_requests.proofs.array.head_in.Goals as goal

pub returns : goal.returns
returns c =
    let bytes = c.args.bytes.now in
    let count = c.in_ok-count.count in
    let is = c.behind-digits.ensures in
    let said = c.in_ok-count.ensures in
    let within : count ≤ length (drop 1 bytes) = subst (λ (xs : List ℕ). count ≤ length xs) is said.0 in
    let rest : c.behind.result.now ≡ drop count (drop 1 bytes) = c.behind.ensures ∙ ap (drop count) is in
    let ends = subst (λ xs. xs ≡ 13 ∷ 10 ∷ drop 2 xs) rest (c.ends_line.ensures c.if-not-ends_line.false) in (
      omega arith,
      omega (arith, within, length-drop 1 bytes, length-drop count (drop 1 bytes), ap (λ (xs : List ℕ). length xs) ends),
      said.1,
      head_whole bytes c.args.mark c.in_ok-count.number count (omega (arith, c.if-bytes-lt2.false)) c.if-bytes-mark.false within
          (ap (take count) (sym is) ∙ said.2) ends,
    )
