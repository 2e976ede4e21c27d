-- Nothing is told beside the line, the event is the one that is lent, and a refusal is noted.
use Rattle.sk_run.proofs.Names.{[], ◌++◌, List, ℕ, Some, refl, sym, subst, Appends, append-nil, told_line, WorldEvent, Happens}
use Rattle.sk_run.proofs.strict.StrictWorldPlayer.take.Goals as goal

pub returns-clause-told : goal.returns-clause-told
returns-clause-told g c =
    let told = c.in_ok-told.told in
    let happens = subst (λ (e : WorldEvent). Happens (Some told) c.args.self.now.world e c.happen.new.world) c.lend.ensures c.in_ok-told.ensures in
    let line = told_line c.args.number told in (
      line ++ [],
      (line, (told, happens, c.noted_told-self.ensures, refl), refl),
      subst (λ (ls : List ℕ). Appends (g.W.Write.contents c.args.out.now) (g.W.Write.contents c.write_told.new.out) ls) (sym (append-nil line)) c.in_ok-write_told.ensures,
    )
