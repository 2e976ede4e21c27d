-- The next segment is begun, if there is one.
use Rattle.sk_recovered.proofs.Names.{◌≡◌, ◌+◌, drop, length, Some, refl, sym, ap, ◌∙◌, arith, slice_get, take_rest}
use Rattle.sk_recovered.proofs.Names.{slice_get-get_or, least}
use Rattle.sk_recovered.proofs.Counted.{all_read, begun}
use Rattle.sk_recovered.proofs.recovered.Recovered.open.Goals as goal

pub returns-in_default : goal.returns-in_default
returns-in_default c = (
  refl,
  λ start first heads bytes left has. all_read start first heads bytes left c.args.self has (omega (arith, c.in_default.ensures.lookup.3, ap length c.as_slice.ensures)),
)

pub returns : goal.returns
returns c = λ start first heads bytes left has.
    let r = c.args.self in
    let head = c.in-Some.head.now in
    let at : slice_get r.heads r.opened ≡ Some head =
    ap (λ hs. slice_get hs r.opened) (sym c.as_slice.ensures)
    ∙ slice_get-get_or c.as_slice.result.now r.opened head c.in-Some.ensures.lookup.3.0
    ∙ ap Some (sym c.in-Some.ensures.lookup.1) in
    let bound = c.least-bound.ensures ∙ ap least (take_rest c.as_slice-2.result.now (r.opened + 1) ∙ ap (drop (r.opened + 1)) c.as_slice-2.ensures) in
    begun start first heads bytes left r head c.new-log.result c.least-bound.result _ has at c.new-log.ensures bound refl
