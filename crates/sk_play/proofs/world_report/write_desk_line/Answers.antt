-- The counts are those of the kernel and of the requests that the desk has.
use Rattle.sk_play.proofs.Names.{subst, OnOk, Appends}
use Rattle.sk_play.proofs.Counted.{counted}
use Rattle.sk_play.proofs.world_report.write_desk_line.Goals as goal

pub returns : goal.returns
returns g c =
    subst (λ text. OnOk c.write_counts.result (Appends (g.W.Write.contents c.args.out.now) (g.W.Write.contents c.write_counts.new.out) text))
    (counted c.args.desk.now c.kernel.result.now c.pending.result c.kernel.ensures c.pending.ensures) c.write_counts.ensures
