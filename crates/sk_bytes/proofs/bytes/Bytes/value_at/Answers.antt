-- A key has what its number has, and where no key is nothing is.
use Rattle.sk_bytes.proofs.Names.{None, ◌∙◌, ap, nat_cmp, at_key, look_at, bytes_cmp, string_of, ByteView}
use Rattle.sk_bytes.proofs.Counted.{value_in_place}
use Rattle.sk_bytes.proofs.bytes.Bytes.value_at.Goals as goal

pub returns : goal.returns
returns g c =
    c.value.ensures
    ∙ ap (look_at nat_cmp c.self.inside.kernel.slots) c.new.ensures
    ∙ value_in_place c.self.inside.keys.index c.self.inside.kernel c.self.inside.keys.loose.items c.self.invariant.0 c.args.place
    ∙ ap (λ (b : ByteView _ _). at_key None (look_at bytes_cmp b.parts.slots) (string_of b.keys c.args.place)) c.self.view_is
