use Rattle.sk_undo.proofs.Cites.{◌≡◌, ◌-◌, None, suc, sym, ◌∙◌, ap, arith, stands_for, repeats}
use Rattle.sk_undo.proofs.Joins.{repeats_place, none_repeats}
use Rattle.sk_undo.proofs.log.is_needless.Goals as goal

pub returns-then-place-eq0 : goal.returns-then-place-eq0
returns-then-place-eq0 g c = none_repeats g.V.Logged.is_whole c.args.notes.now ∙ ap (λ i. repeats g.V.Logged.is_whole None i c.args.notes.now) (sym c.if-place-eq0.true)

pub returns : goal.returns
returns g c =
    let next : c.args.place ≡ suc (c.args.place - 1) = omega (arith, c.if-place-eq0.false) in
    c.stands_for.ensures
    ∙ (λ i. stands_for g.V.Logged.is_whole c.index-notes-place.result (sym c.index-notes-place-2.is i).tags)
    ∙ repeats_place g.V.Logged.is_whole c.args.place (c.args.place - 1) c.args.notes.now c.index-notes-place-2.result c.index-notes-place.result next c.requires c.index-notes-place-2.is c.index-notes-place.is
