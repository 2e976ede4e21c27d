-- The keys that have numbers are counted.
use Rattle.sk_bytes.proofs.Names.{sym, subst, Counts, ByteView}
use Rattle.sk_bytes.proofs.Counted.{counts}
use Rattle.sk_bytes.proofs.bytes.Bytes.len.Goals as goal

pub returns : goal.returns
returns g c =
    subst (λ (b : ByteView _ _). Counts b c.len.result) c.self.view_is
    (subst (Counts _) (sym c.len.ensures.many)
    (counts c.self.inside.keys.index c.self.inside.kernel c.self.inside.keys.loose.items c.self.invariant.0 c.len.ensures.apart))
