-- The lines so far are answered, those behind them are what the reader has left, and nothing is left in the buffer.
use Rattle.sk_run.proofs.Names.{◌≡◌, [], writer_buffer, writer_contents}
use Rattle.sk_run.proofs.Talked.{Going}
use Rattle.sk_run.proofs.talking.answer_lines.Given as goal

abbrev pub invariant-loop-number : goal.invariant-loop-number
invariant-loop-number g l = record {
  going : Going l.fn.play (g.R.Read.remaining l.fn.reader) l.number l.talk (g.R.Read.remaining l.reader) (writer_contents g.W.Write.contents l.fn.out) (writer_contents g.W.Write.contents l.out);
  at_once : writer_buffer l.fn.out ≡ [] → writer_buffer l.out ≡ [];
}
