-- Names of directories compare as entities do, which tells all apart.
use Rattle.std.specs.Prelude.{◌≡◌}
use Rattle.sk_undo.specs.Base.{sym, ap, subst, IsAntisymmetric, entity_exact, Entity, Link, LinkKey}
use Rattle.sk_undo.specs.Kinds.{link_cmp, link_of}
use Rattle.sk_undo.specs.contracts.keys.LinkKeyOrd.TheImpl as link_ord

abbrev key_of : LinkKey → Entity → LinkKey
key_of l (Link o n) = record { directory = o; name = n }
key_of l _ = l

pub link_exact : IsAntisymmetric link_cmp
link_exact a b h = ap (key_of a) (entity_exact (link_of a) (link_of b) h)

-- what the derive computes
pub link_same : (link_ord.ghosts).cmp ≡ link_cmp
link_same i a b = link_cmp a b

pub link_tells : IsAntisymmetric (link_ord.ghosts).cmp
link_tells = subst IsAntisymmetric (sym link_same) link_exact
