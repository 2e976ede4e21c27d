-- Nothing was carried out.
use Rattle.sk_recovered.proofs.Names.{[], refl, arith}
use Rattle.sk_recovered.proofs.frames.Frames.new.Goals as goal

pub returns-clause-taken : goal.returns-clause-taken
returns-clause-taken c = λ first.
    (record { taken = []; left = []; all = refl; works = []; say = refl; store_is = refl; left_is = refl }, omega arith)
