-- What was foreseen is what is listed, since the call appends no other step, and a refusal is noted.
use Rattle.sk_run.proofs.Names.{◌≡◌, ◌++◌, ◌∙◌, refl, subst, Appends, Appends-trans, listed, answer_line, upcoming}
use Rattle.sk_run.proofs.Names.{call_foreseen, foreseen, foreseen_lines}
use Rattle.sk_run.proofs.Listed.{lines_are}
use Rattle.sk_run.proofs.strict.StrictSessionPlayer.list.Goals as goal

pub returns-clause-told : goal.returns-clause-told
returns-clause-told g c =
    let old = c.args.self.now.session.holder in
    let new = c.execute.new.self.holder.kernel in
    let call = c.args.item.now in
    let a = c.in_ok-answer.answer in
    let line = answer_line c.args.number a in
    let is : foreseen_lines c.foresee-foreseen.result c.kernel-2.result.now ≡ listed old.kernel new =
    (λ i. foreseen_lines ((c.foresee-foreseen.ensures ∙ (λ j. foreseen (c.kernel.ensures j) (c.upcoming.ensures j))) i) (c.kernel-2.ensures i))
    ∙ lines_are (upcoming call) old.kernel new (call_foreseen a call old.held old.kernel new c.in_ok-answer.ensures.told) in (
      line ++ listed old.kernel new,
      (line, (a, c.in_ok-answer.ensures.told, c.in_ok-answer.ensures.held, c.noted-self.ensures, refl), refl),
      subst (λ ls. Appends (g.W.Write.contents c.args.out.now) (g.W.Write.contents c.write_foreseen.new.out) (line ++ ls)) is
          (Appends-trans _ _ _ _ _ c.in_ok-write_answer.ensures c.in_ok-write_foreseen.ensures),
    )
