-- The first eight cells tell, or else those behind them.
use Rattle.std.proofs.Common.{arith, ◌∙◌}
use Rattle.sk_ids.proofs.Words.{word_tells, word_passes}
use Rattle.sk_ids.proofs.name.cells_compared.Goals as goal

pub returns-then-x-y : goal.returns-then-x-y
returns-then-x-y c =
    c.cmp.ensures
    ∙ word_tells c.args.a.now c.args.b.now c.type_inv.a c.type_inv.b 0 c.word-x.result c.word-y.result (omega (arith, c.requires.a)) (omega (arith, c.requires.b)) c.word-x.ensures c.word-y.ensures c.if-x-y.true

pub returns : goal.returns
returns c =
    c.later_compared.ensures
    ∙ word_passes c.args.a.now c.args.b.now c.type_inv.a c.type_inv.b 0 c.word-x.result c.word-y.result (omega (arith, c.requires.a)) (omega (arith, c.requires.b)) c.word-x.ensures c.word-y.ensures c.if-x-y.false
