use Rattle.std.proofs.Common.{arith}
use Rattle.sk_words.proofs.Parts.{lines_short}
use Rattle.sk_words.proofs.cursor.Cursor.of.Goals as goal

pub invariant_of-result : goal.invariant_of-result
invariant_of-result c = rw c.whole.ensures (omega (arith, lines_short c.args.text.now, c.type_inv.text))
