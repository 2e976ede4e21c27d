-- One number more.
use Rattle.sk_bytes.proofs.Names.{◌∷◌, [], arith, ◌||◌, nat_cmp, is_in}
use Rattle.sk_bytes.proofs.Moves.{all_go, both_go, first_more, none_goes}
use Rattle.sk_bytes.proofs.numbers.give_back_unused.Goals as goal

pub loop-place-init : goal.loop-place-init
loop-place-init g c = (is_in nat_cmp [], none_goes c.args.kernel.now.slots c.args.index.now c.requires.two_way, (λ n below. absurd (omega (arith, below))))

pub give_back-requires-clause-two_way : goal.give_back-requires-clause-two_way
give_back-requires-clause-two_way g c = c.loop-place.invariant.1.two_way

pub give_back-requires-clause-rests : goal.give_back-requires-clause-rests
give_back-requires-clause-rests g c = c.requires.rests c.new.result

pub loop-place-preserved : goal.loop-place-preserved
loop-place-preserved g c =
    let some = c.loop-place.invariant.0 in
    let one = is_in nat_cmp (c.new.result ∷ []) in (
      (λ n. some n || one n),
      both_go c.args.kernel.now.slots c.args.index.now c.loop-place.index c.give_back.new.index some one c.loop-place.invariant.1 c.give_back.ensures,
      first_more some c.loop-place.place c.new.result c.new.ensures c.loop-place.invariant.2,
    )

pub returns : goal.returns
returns g c =
    all_go c.args.kernel.now.slots c.args.index.now c.loop-place.index c.loop-place.invariant.0 c.loop-place.place c.loop-place.invariant.1 c.loop-place.invariant.2
    (λ n above. c.places-place-end.ensures.behind n (omega (arith, above, c.loop-place-test.false)))
