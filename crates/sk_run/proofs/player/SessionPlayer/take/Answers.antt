-- Nothing is told beside the line.
use Rattle.sk_run.proofs.Names.{[], ◌++◌, ◌∙◌, refl, sym, subst, Appends, append-nil, answer_line}
use Rattle.sk_run.proofs.player.SessionPlayer.take.Goals as goal

pub returns-clause-told : goal.returns-clause-told
returns-clause-told g c =
    let a = c.in_ok-answer.answer in
    let line = answer_line c.args.number a in
    let made = c.as_bytes.ensures ∙ c.put_answer.ensures in (
      line ++ [],
      (line, (a, c.in_ok-answer.ensures.told, c.in_ok-answer.ensures.held, refl), refl),
      subst (λ ls. Appends (g.W.Write.contents c.args.out.now) (g.W.Write.contents c.write_all.new.self) ls) (made ∙ sym (append-nil line)) c.in_ok-write_all.ensures.bytes,
    )
