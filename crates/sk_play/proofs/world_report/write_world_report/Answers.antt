-- The desk and the server are those of the world.
use Rattle.sk_play.proofs.Names.{ap₂, subst, OnOk, Appends, desk_report_text}
use Rattle.sk_play.proofs.world_report.write_world_report.Goals as goal

pub returns : goal.returns
returns g c =
    subst (λ text. OnOk c.write_desk_report.result (Appends (g.W.Write.contents c.args.out.now) (g.W.Write.contents c.write_desk_report.new.out) text))
    (ap₂ desk_report_text c.desk.ensures c.server.ensures) c.write_desk_report.ensures
