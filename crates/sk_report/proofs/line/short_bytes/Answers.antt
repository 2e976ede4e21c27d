-- A file of 512 bytes at most is its first block.
use Rattle.sk_report.proofs.Names.{◌≡◌, ◌≤◌, List, ℕ, length, arith, subst, sym, ◌∙◌, take_all}
use Rattle.sk_report.proofs.line.short_bytes.Goals as goal

pub returns : goal.returns
returns c =
    let f = c.args.file.now in
    let size = c.len-size.ensures.value in
    let small = c.if-size-gt512.false in
    let short : length f ≤ 512 = omega (arith, size, small) in
    let whole : c.block.result.now ≡ f = c.block.ensures ∙ take_all 512 f short in
    (whole, subst (λ (bs : List ℕ). length bs ≤ 512) (sym whole) short)
