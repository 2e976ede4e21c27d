-- A key has what its number has.
use Rattle.sk_bytes.proofs.Names.{None, sym, ap, ◌∙◌, nat_cmp, at_key, look_at, bytes_cmp, ByteView}
use Rattle.sk_bytes.proofs.Told.{look_told}
use Rattle.sk_bytes.proofs.bytes.Bytes.value.Goals as goal

pub returns-in-Some : goal.returns-in-Some
returns-in-Some g c =
    c.value.ensures
    ∙ ap (at_key None (look_at nat_cmp c.self.inside.kernel.slots)) c.in-Some.ensures
    ∙ sym (look_told c.self.inside.keys.index c.self.inside.kernel.slots c.args.key.now)
    ∙ ap (λ (b : ByteView _ _). look_at bytes_cmp b.parts.slots c.args.key.now) c.self.view_is

pub returns-in-None : goal.returns-in-None
returns-in-None g c =
    ap (at_key None (look_at nat_cmp c.self.inside.kernel.slots)) c.in-None.ensures
    ∙ sym (look_told c.self.inside.keys.index c.self.inside.kernel.slots c.args.key.now)
    ∙ ap (λ (b : ByteView _ _). look_at bytes_cmp b.parts.slots c.args.key.now) c.self.view_is
