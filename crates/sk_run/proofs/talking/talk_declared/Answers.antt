-- Memory runs out before a line is answered.
use Rattle.sk_run.proofs.Names.{codes, writer_contents, section_view, opened_in}
use Rattle.sk_run.proofs.Talked.{not_opened}
use Rattle.sk_run.proofs.talking.talk_declared.Goals as goal

pub returns-in-Err-clause-end : goal.returns-in-Err-clause-end
returns-in-Err-clause-end g c =
    not_opened (opened_in c.args.declarations.now (section_view c.args.section.now)) (g.O.OpenInput.bytes_of c.args.inputs.now (codes "-")) (writer_contents g.W.Write.contents c.args.out.now) c.in-Err.ensures
