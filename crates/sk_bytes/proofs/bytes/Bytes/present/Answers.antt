-- The keys are told by their strings.
use Rattle.sk_bytes.proofs.Names.{subst, look_at, bytes_cmp, ByteView}
use Rattle.sk_slots.specs.Counted.{HasPresent}
use Rattle.sk_bytes.proofs.Present.{present_told}
use Rattle.sk_bytes.proofs.bytes.Bytes.present.Goals as goal

pub returns : goal.returns
returns g c =
    subst (λ (b : ByteView _ _). HasPresent bytes_cmp (look_at bytes_cmp b.parts.slots) c.present.result) c.self.view_is
    (present_told c.self.inside.keys.index c.self.inside.kernel c.self.invariant.0.fits c.present.result c.present.ensures)
