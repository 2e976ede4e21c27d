-- Nothing is told beside the line, and the event is the one that is lent.
use Rattle.sk_run.proofs.Names.{[], ◌++◌, ◌∙◌, Some, refl, sym, subst, Appends, append-nil, told_line, WorldEvent, Happens}
use Rattle.sk_run.proofs.player.WorldPlayer.take.Goals as goal

pub returns-clause-told : goal.returns-clause-told
returns-clause-told g c =
    let told = c.in_ok-happen_line.ensures in
    let line = told_line c.args.number told.0 in
    let happens = subst (λ (e : WorldEvent). Happens (Some told.0) c.args.self.now e c.happen_line.new.world) c.lend.ensures told.1 in
    let made = c.as_bytes.ensures ∙ told.2 in (
      line ++ [],
      (line, (told.0, happens, refl), refl),
      subst (λ ls. Appends (g.W.Write.contents c.args.out.now) (g.W.Write.contents c.write_all.new.self) ls) (made ∙ sym (append-nil line)) c.in_ok-write_all.ensures.bytes,
    )
