-- Nothing is told beside the line, and a refusal is noted.
use Rattle.sk_run.proofs.Names.{[], ◌++◌, List, ℕ, refl, sym, subst, Appends, append-nil, answer_line}
use Rattle.sk_run.proofs.strict.StrictSessionPlayer.take.Goals as goal

pub returns-clause-told : goal.returns-clause-told
returns-clause-told g c =
    let a = c.in_ok-answer.answer in
    let line = answer_line c.args.number a in (
      line ++ [],
      (line, (a, c.in_ok-answer.ensures.told, c.in_ok-answer.ensures.held, c.noted-self.ensures, refl), refl),
      subst (λ (ls : List ℕ). Appends (g.W.Write.contents c.args.out.now) (g.W.Write.contents c.write_answer.new.out) ls) (sym (append-nil line)) c.in_ok-write_answer.ensures,
    )
