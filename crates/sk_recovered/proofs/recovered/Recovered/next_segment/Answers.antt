-- The head that is next.
use Rattle.sk_recovered.proofs.Names.{◌≡◌, Some, sym, ap, ◌∙◌, arith, length, slice_get, option_map, slice_get-get_or}
use Rattle.sk_recovered.proofs.Names.{slice_get_past}
use Rattle.sk_recovered.proofs.recovered.Recovered.next_segment.Goals as goal

pub returns-in-Some : goal.returns-in-Some
returns-in-Some c =
    let r = c.args.self.now in
    let head = c.in-Some.head.now in
    let at : slice_get r.heads r.opened ≡ Some head =
    ap (λ hs. slice_get hs r.opened) (sym c.as_slice.ensures)
    ∙ slice_get-get_or c.as_slice.result.now r.opened head c.in-Some.ensures.lookup.3.0
    ∙ ap Some (sym c.in-Some.ensures.lookup.1) in
    sym (ap (option_map (λ h. h.segment)) at)

pub returns-in-None : goal.returns-in-None
returns-in-None c =
    let r = c.args.self.now in
    sym (ap (option_map (λ h. h.segment)) (slice_get_past r.heads r.opened (omega (arith, c.in-None.ensures.lookup.3, ap length c.as_slice.ensures))))
