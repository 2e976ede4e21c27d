-- A key depends on what its number depends on.
use Rattle.sk_bytes.proofs.Names.{[], sym, ap, ◌∙◌, nat_cmp, last_tags, at_key, log_at, bytes_cmp, ByteView}
use Rattle.sk_bytes.proofs.Told.{log_told}
use Rattle.sk_bytes.proofs.bytes.Bytes.tags_of.Goals as goal

pub returns-in-Some : goal.returns-in-Some
returns-in-Some g c =
    c.tags_of.ensures
    ∙ ap (λ o. last_tags [] (at_key [] (log_at nat_cmp c.self.inside.kernel.slots) o)) c.in-Some.ensures
    ∙ ap (last_tags []) (sym (log_told c.self.inside.keys.index c.self.inside.kernel.slots c.args.key.now))
    ∙ ap (λ (b : ByteView _ _). last_tags [] (log_at bytes_cmp b.parts.slots c.args.key.now)) c.self.view_is

pub returns-in-None : goal.returns-in-None
returns-in-None g c =
    c.self.invariant.4
    ∙ ap (λ o. last_tags [] (at_key [] (log_at nat_cmp c.self.inside.kernel.slots) o)) c.in-None.ensures
    ∙ ap (last_tags []) (sym (log_told c.self.inside.keys.index c.self.inside.kernel.slots c.args.key.now))
    ∙ ap (λ (b : ByteView _ _). last_tags [] (log_at bytes_cmp b.parts.slots c.args.key.now)) c.self.view_is
