-- What is taken out was said.
use Rattle.sk_speculator.proofs.Names.{opens_of, Parts}
use Rattle.sk_speculator.proofs.Afterwards.{whole_told}
use Rattle.sk_speculator.proofs.speculator.Speculator.released.Goals as goal

pub invariant_of-self : goal.invariant_of-self
invariant_of-self g c =
    let a : Parts _ _ _ = record { slots = c.self.inside.slots; guesses = c.self.inside.guesses.view; opens = opens_of c.self.inside.guesses.opens; said = c.self.inside.said.said } in
    let sound = c.self.invariant.1 in (
      c.self.invariant.0,
      record {
        settled = sound.settled;
        exact = sound.exact;
        whole = whole_told a sound.whole c.args.channel c.take_out.result c.take_out.new.self.said c.take_out.ensures.some c.take_out.ensures.others c.take_out.ensures.none;
      },
    )
