-- What explains the item is told below what is listed of it.
use Rattle.sk_run.proofs.Names.{◌≡◌, ◌++◌, ◌∙◌, Option, refl, subst, Appends, Appends-trans, explained, Stand, stand_of}
use Rattle.sk_run.proofs.explaining.explain_one.Goals as goal

pub returns-clause-told : goal.returns-clause-told
returns-clause-told g c =
    let p = g.P.Player in
    let told = c.in_ok-answer_one.ensures.told in
    let source = c.args.source.now in
    let stand = stand_of (p.kernel_of c.args.player.now) (p.process_of c.args.item.now) in
    let is : c.stand_of-stand.result ≡ stand = c.stand_of-stand.ensures ∙ (λ i. stand_of (c.inner_kernel.ensures i) (c.process.ensures i)) in (
      told.0 ++ explained source c.args.number stand,
      (told.0, told.1, refl),
      Appends-trans _ _ _ _ _ told.2
          (subst (λ (at : Option Stand). Appends (g.W.Write.contents c.answer_one.new.out) (g.W.Write.contents c.write_explained.new.out) (explained source c.args.number at)) is
          c.in_ok-write_explained.ensures),
    )
