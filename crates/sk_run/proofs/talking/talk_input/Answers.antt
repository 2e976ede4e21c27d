-- What is known of the standard input is what is known of its reader.
use Rattle.sk_run.proofs.Names.{codes, sym, subst, reader_remaining, writer_contents, EndsTalk}
use Rattle.sk_run.proofs.Talked.{fresh, of_reader, not_begun}
use Rattle.sk_run.proofs.talking.talk_input.Goals as goal

pub returns-in-Err-clause-end : goal.returns-in-Err-clause-end
returns-in-Err-clause-end g c =
    let input = g.O.OpenInput.bytes_of c.args.inputs.now (codes "-") in
    let out = writer_contents g.W.Write.contents c.args.out.now in
    subst (λ end. EndsTalk c.args.play input end out out) (sym c.tell_unread.ensures) (not_begun c.args.play input out)

pub returns-in-Ok-new-clause-end : goal.returns-in-Ok-new-clause-end
returns-in-Ok-new-clause-end g c =
    let input = g.O.OpenInput.bytes_of c.args.inputs.now (codes "-") in
    let reader = c.in-Ok-new.ensures in
    of_reader c.args.play input (reader_remaining g.O.Reader.Read.remaining c.in-Ok-new.lines) c.answer_lines.result (writer_contents g.W.Write.contents c.args.out.now)
    (writer_contents g.W.Write.contents c.answer_lines.new.out)
    (fresh g.O.Reader.Read.remaining c.in-Ok-new.lines c.in-Ok.reader input reader.inner reader.empty reader.capacity c.in-Ok.ensures) c.answer_lines.ensures.end

pub returns-in-Err-new-clause-end : goal.returns-in-Err-new-clause-end
returns-in-Err-new-clause-end g c = not_begun c.args.play (g.O.OpenInput.bytes_of c.args.inputs.now (codes "-")) (writer_contents g.W.Write.contents c.args.out.now)
