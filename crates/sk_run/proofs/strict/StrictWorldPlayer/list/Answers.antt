-- What was foreseen is what is listed, since the event appends no other step, and a refusal is noted.
use Rattle.sk_run.proofs.Names.{◌≡◌, ◌++◌, ◌∙◌, Some, refl, ap, subst, Appends, Appends-trans, DeskView, listed, told_line}
use Rattle.sk_run.proofs.Names.{happening_foreseen, foreseen, foreseen_lines, WorldEvent, Happens}
use Rattle.sk_client.specs.Upcoming.{upcoming}
use Rattle.sk_run.proofs.Listed.{lines_are}
use Rattle.sk_run.proofs.strict.StrictWorldPlayer.list.Goals as goal

pub returns-clause-told : goal.returns-clause-told
returns-clause-told g c =
    let old = c.args.self.now.world in
    let new = c.happen.new.world in
    let event = c.args.item.now in
    let told = c.in_ok-told.told in
    let happens = subst (λ (e : WorldEvent). Happens (Some told) old e new) c.lend-2.ensures c.in_ok-told.ensures in
    let line = told_line c.args.number told in
    let before = c.kernel.ensures ∙ ap (λ (d : DeskView). d.kernel) c.desk.ensures in
    let after = c.kernel-2.ensures ∙ ap (λ (d : DeskView). d.kernel) c.desk-2.ensures in
    let is : foreseen_lines c.foresee-foreseen.result c.kernel-2.result.now ≡ listed old.desk.kernel new.desk.kernel =
    (λ i. foreseen_lines ((c.foresee-foreseen.ensures ∙ (λ j. foreseen (before j) ((c.upcoming.ensures ∙ ap (upcoming old) c.lend.ensures) j))) i) (after i))
    ∙ lines_are (upcoming old event) old.desk.kernel new.desk.kernel (happening_foreseen (Some told) old event new happens) in (
      line ++ listed old.desk.kernel new.desk.kernel,
      (line, (told, happens, c.noted_told-self.ensures, refl), refl),
      subst (λ ls. Appends (g.W.Write.contents c.args.out.now) (g.W.Write.contents c.write_foreseen.new.out) (line ++ ls)) is
          (Appends-trans _ _ _ _ _ c.in_ok-write_told.ensures c.in_ok-write_foreseen.ensures),
    )
