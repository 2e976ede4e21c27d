-- They are the same in each place.
use Rattle.sk_guesses.proofs.Names.{arith}
use Rattle.std.proofs.lemmas.List.{same_lists}
use Rattle.sk_guesses.proofs.entity_set.are_same.Goals as goal

pub returns : goal.returns
returns g c = λ _. same_lists c.args.entities.now c.args.others.now c.if-entities-others.false (λ k d lt. c.loop-place.invariant k d (omega (arith, lt, c.loop-place-test.false)))
