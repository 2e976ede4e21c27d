-- The string of the number in this place.
use Rattle.sk_bytes.proofs.Names.{None, ap, ◌∙◌, at_key, string_of, ByteView}
use Rattle.sk_bytes.proofs.Moves.{get_none, get_some}
use Rattle.sk_bytes.proofs.bytes.Bytes.dependent.Goals as goal

pub returns-in-Some : goal.returns-in-Some
returns-in-Some g c =
    let es = c.self.inside.keys.index in
    let ns = c.numbers_on.result.now in
    c.string.ensures
    ∙ ap (λ (b : ByteView _ _). string_of b.keys c.in-Some.number.now) c.self.view_is
    ∙ ap (at_key None (string_of c.args.self.now.keys)) (get_some ns c.args.place c.in-Some.number.now c.in-Some.ensures.lookup.3.0 c.in-Some.ensures.lookup.1)
    ∙ c.numbers_on.ensures.keys c.args.place

pub returns-in-None : goal.returns-in-None
returns-in-None g c =
    ap (at_key None (string_of c.args.self.now.keys)) (get_none c.numbers_on.result.now c.args.place c.in-None.ensures.lookup.3)
    ∙ c.numbers_on.ensures.keys c.args.place
