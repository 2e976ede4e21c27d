-- The keys are those of the index.
use Rattle.sk_bytes.proofs.Names.{sym, ◌∙◌, ap, subst, string_of, HasPlaces, ByteView}
use Rattle.sk_bytes.proofs.Counted.{has_places}
use Rattle.sk_bytes.proofs.bytes.Bytes.places.Goals as goal

pub returns-clause-behind : goal.returns-clause-behind
returns-clause-behind g c = λ n past. ap (λ (b : ByteView _ _). string_of b.keys n) (sym c.self.view_is) ∙ c.places.ensures.behind n past

pub returns-clause-keys : goal.returns-clause-keys
returns-clause-keys g c = subst HasPlaces c.self.view_is (has_places c.self.inside.keys.index c.self.inside.kernel c.self.inside.keys.loose.items c.self.invariant.0)
