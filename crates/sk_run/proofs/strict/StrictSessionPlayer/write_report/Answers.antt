-- The report is that of its kernel.
use Rattle.sk_run.proofs.Names.{subst, OnOk, Appends, KernelView, report_text}
use Rattle.sk_run.proofs.strict.StrictSessionPlayer.write_report.Goals as goal

pub returns : goal.returns
returns g c =
    let old = g.W.Write.contents c.args.out.now in
    let new = g.W.Write.contents c.write_report.new.out in
    let Written = λ (k : KernelView). OnOk c.write_report.result (Appends old new (report_text k)) in
    subst Written c.kernel.ensures c.write_report.ensures
