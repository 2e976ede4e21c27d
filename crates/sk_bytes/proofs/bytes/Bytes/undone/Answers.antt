-- The string of the number in this place.
use Rattle.sk_bytes.proofs.Names.{None, sym, ap, ◌∙◌, slice_get, at_key, string_of, ByteView}
use Rattle.sk_bytes.proofs.Moves.{get_none, get_some}
use Rattle.sk_bytes.proofs.Undone.{strings_at}
use Rattle.sk_bytes.proofs.bytes.Bytes.undone.Goals as goal

pub returns-in-Some : goal.returns-in-Some
returns-in-Some g c =
    let es = c.self.inside.keys.index in
    let ns = c.self.inside.keys.loose.items in
    c.string.ensures
    ∙ ap (at_key None (string_of es)) (get_some c.deref.result.now c.args.place c.in-Some.number.now c.in-Some.ensures.lookup.3.0 c.in-Some.ensures.lookup.1 ∙ ap (λ xs. slice_get xs c.args.place) c.deref.ensures.value)
    ∙ sym (strings_at es ns c.args.place c.self.invariant.0.held)
    ∙ ap (λ (v : ByteView _ _). slice_get v.undone c.args.place) c.self.view_is

pub returns-in-None : goal.returns-in-None
returns-in-None g c =
    let es = c.self.inside.keys.index in
    let ns = c.self.inside.keys.loose.items in
    ap (at_key None (string_of es)) (get_none c.deref.result.now c.args.place c.in-None.ensures.lookup.3 ∙ ap (λ xs. slice_get xs c.args.place) c.deref.ensures.value)
    ∙ sym (strings_at es ns c.args.place c.self.invariant.0.held)
    ∙ ap (λ (v : ByteView _ _). slice_get v.undone c.args.place) c.self.view_is
