-- What was found.
use Rattle.sk_recovered.proofs.Names.{ap, refl, Place}
use Rattle.sk_recovered.proofs.Counted.{found}
use Rattle.sk_recovered.proofs.recovered.Recovered.end.Goals as goal

pub returns-clause-found : goal.returns-clause-found
returns-clause-found c = λ start first heads bytes left has.
    found start first heads bytes left c.args.self _ has refl refl refl refl
    (ap (λ (p : Place). p.segment) c.place_of-segment.ensures) (ap (λ (p : Place). p.offset) c.place_of-segment.ensures)
    (ap (λ (p : Place). p.number) c.place_of-segment.ensures) c.saturating_sub.ensures
