-- One place more.
use Rattle.sk_bytes.proofs.Names.{◌<◌, length, get_or, arith, ap, ◌∙◌, slice_set}
use Rattle.sk_bytes.proofs.Moves.{swapped_all, swapped_at, swapped_more}
use Rattle.sk_bytes.proofs.numbers.exchange.Goals as goal

pub loop-place-preserved : goal.loop-place-preserved
loop-place-preserved g c =
    let l = c.loop-place in
    let i = l.place in
    let ls = c.args.left.now.items in
    let rs = c.args.right.now.items in
    let x = c.index_mut.result.now in
    let y = c.index_mut-in-loop-place.result.now in
    let near : i < length ls = omega (arith, c.loop-place-test.true, c.len-place-end.ensures, c.args.left.now.ok.0) in
    let other : i < length rs = omega (arith, near, c.requires) in
    let is = c.index_mut.ensures.value ∙ ap (λ xs. get_or xs i x) l.invariant.0 ∙ swapped_at i ls rs x in
    let at = c.index_mut-in-loop-place.ensures.value ∙ ap (λ xs. get_or xs i y) l.invariant.1 ∙ swapped_at i rs ls y in (
      (λ j. slice_set (l.invariant.0 j) i (c.exchange_one.ensures.left j)) ∙ swapped_more i ls rs x y near other is at,
      (λ j. slice_set (l.invariant.1 j) i (c.exchange_one.ensures.right j)) ∙ swapped_more i rs ls y x other near at is,
      l.invariant.2,
      l.invariant.3,
    )

pub returns-clause-left : goal.returns-clause-left
returns-clause-left g c =
    c.loop-place.invariant.0
    ∙ swapped_all c.loop-place.place c.args.left.now.items c.args.right.now.items (omega (arith, c.loop-place-test.false, c.len-place-end.ensures, c.args.left.now.ok.0))

pub returns-clause-right : goal.returns-clause-right
returns-clause-right g c =
    c.loop-place.invariant.1
    ∙ swapped_all c.loop-place.place c.args.right.now.items c.args.left.now.items (omega (arith, c.loop-place-test.false, c.len-place-end.ensures, c.args.left.now.ok.0, c.requires))
