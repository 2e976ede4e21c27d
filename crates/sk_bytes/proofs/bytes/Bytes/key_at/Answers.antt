-- The string in the place.
use Rattle.sk_bytes.proofs.Names.{◌∙◌, ap, string_of, ByteView}
use Rattle.sk_bytes.proofs.bytes.Bytes.key_at.Goals as goal

pub returns : goal.returns
returns g c =
    c.string.ensures ∙ ap (string_of c.self.inside.keys.index) c.new.ensures ∙ ap (λ (b : ByteView _ _). string_of b.keys c.args.place) c.self.view_is
