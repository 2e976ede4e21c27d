-- The lines of the texts before the loop's place are written.
use Rattle.sk_talk.proofs.Names.{take, Appends, texts_lines}
use Rattle.sk_talk.proofs.handed_out.write_texts.Given as goal

abbrev pub invariant-loop-text : goal.invariant-loop-text
invariant-loop-text g l = Appends (g.W.Write.contents l.fn.out) (g.W.Write.contents l.out) (texts_lines (take l.text-index l.texts))
