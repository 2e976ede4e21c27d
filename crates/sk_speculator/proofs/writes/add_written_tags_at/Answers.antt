-- What a key depends on that was looked at is in the set.
use Rattle.sk_speculator.proofs.Names.{◌∷◌, [], subst, has, IsAntisymmetric, any_rests}
use Rattle.sk_speculator.proofs.Writing.{only_one, or_known}
use Rattle.sk_speculator.proofs.Afterwards.{any_of}
use Rattle.sk_speculator.proofs.writes.add_written_tags_at.Goals as goal

pub returns-then-is_looked : goal.returns-then-is_looked
returns-then-is_looked g c = λ n.
    let R = g.K.Key.order in
    let exact = subst IsAntisymmetric g.met.K.Key.same g.met.K.Key.exact in
    let m = c.args.slots.now in
    let k = c.args.key.now in
    or_known (has n c.args.all.now) (any_rests R m n (k ∷ [])) (λ rests.
    c.requires n (any_of R exact m n c.args.looked.now k (c.is_looked.ensures c.if-is_looked.true) (only_one _ rests)))
