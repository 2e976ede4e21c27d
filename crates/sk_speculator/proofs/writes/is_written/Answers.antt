-- The key that is written in this turn is among those that are.
use Rattle.sk_speculator.proofs.Names.{sym, ◌∙◌, ap, subst, IsTotalOrder, is_in, keys_of}
use Rattle.sk_slots.proofs.Tables.{same_key}
use Rattle.sk_speculator.proofs.Writing.{in_place}
use Rattle.sk_speculator.proofs.writes.is_written.Goals as goal

pub returns-in-Some : goal.returns-in-Some
returns-in-Some g c is =
    let R = g.K.Key.order in
    let total = subst IsTotalOrder g.met.K.Key.same g.met.K.Ord.total in
    let ws = c.args.written.now in
    let w = c.in-Some.write.now in
    ap (is_in R (keys_of ws)) (sym (same_key g.met.K.Ord.matches_eq g.met.K.Key.exact w.0 c.args.key.now (sym c.eq.ensures ∙ is)))
    ∙ in_place {R = R} total ws c.args.turn w c.in-Some.ensures.lookup.3.0 (c.in-Some.ensures.lookup.1)
