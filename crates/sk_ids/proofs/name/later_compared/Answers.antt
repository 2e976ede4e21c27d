-- Eight cells tell, or else the next ones.
use Rattle.std.proofs.Common.{arith, ◌∙◌}
use Rattle.sk_ids.proofs.Words.{word_tells, word_passes, word_ends}
use Rattle.sk_ids.proofs.name.later_compared.Goals as goal

pub returns-then-x-y : goal.returns-then-x-y
returns-then-x-y c =
    c.cmp.ensures
    ∙ word_tells c.args.a.now c.args.b.now c.type_inv.a c.type_inv.b 8 c.word-x.result c.word-y.result (omega (arith, c.requires.a)) (omega (arith, c.requires.b)) c.word-x.ensures c.word-y.ensures c.if-x-y.true

pub returns-then-z-w : goal.returns-then-z-w
returns-then-z-w c =
    c.cmp-then-z-w.ensures
    ∙ word_tells c.args.a.now c.args.b.now c.type_inv.a c.type_inv.b 16 c.word-z.result c.word-w.result (omega (arith, c.requires.a)) (omega (arith, c.requires.b)) c.word-z.ensures c.word-w.ensures c.if-z-w.true
    ∙ word_passes c.args.a.now c.args.b.now c.type_inv.a c.type_inv.b 8 c.word-x.result c.word-y.result (omega (arith, c.requires.a)) (omega (arith, c.requires.b)) c.word-x.ensures c.word-y.ensures c.if-x-y.false

pub returns : goal.returns
returns c =
    c.cmp-2.ensures
    ∙ word_ends c.args.a.now c.args.b.now c.type_inv.a c.type_inv.b 24 c.word.result c.word-2.result (omega (arith, c.requires.a)) (omega (arith, c.requires.b)) c.word.ensures c.word-2.ensures c.requires.a c.requires.b
    ∙ word_passes c.args.a.now c.args.b.now c.type_inv.a c.type_inv.b 16 c.word-z.result c.word-w.result (omega (arith, c.requires.a)) (omega (arith, c.requires.b)) c.word-z.ensures c.word-w.ensures c.if-z-w.false
    ∙ word_passes c.args.a.now c.args.b.now c.type_inv.a c.type_inv.b 8 c.word-x.result c.word-y.result (omega (arith, c.requires.a)) (omega (arith, c.requires.b)) c.word-x.ensures c.word-y.ensures c.if-x-y.false
