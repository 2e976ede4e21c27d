-- What a key depends on that is written is known.
use Rattle.sk_speculator.proofs.Names.{subst, IsAntisymmetric, keys_of}
use Rattle.sk_speculator.proofs.Afterwards.{any_of}
use Rattle.sk_speculator.proofs.Writing.{only_one}
use Rattle.sk_speculator.proofs.writes.is_within.Goals as goal

pub returns-then-is_written : goal.returns-then-is_written
returns-then-is_written g c = λ _ n rests.
    let exact = subst IsAntisymmetric g.met.K.Key.same g.met.K.Key.exact in
    c.requires n
    (any_of g.K.Key.order exact c.args.slots.now n (keys_of c.args.written.now) c.args.key.now (c.is_written.ensures c.if-is_written.true) (only_one _ rests))
