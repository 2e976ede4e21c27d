-- The keys of all places are listed, and sorted they rise.
use Rattle.std.proofs.Common.{◌≡◌, ap, ◌∙◌, arith}
use Rattle.sk_durable.proofs.Listed.{lacks_none, listed}
use Rattle.sk_durable.proofs.known.known_keys.Goals as goal

pub returns : goal.returns
returns c =
    let kernel = c.args.kernel.now in
    let count = c.places-place-end.result in
    let places = c.places-place-end.ensures in
    let now = c.sort_unstable in
    let last : c.loop-place.place ≡ count = omega (arith, c.loop-place-test.false, c.loop-place.auto.place-end) in
    lacks_none kernel count places.keys places.behind c.loop-place.keys.items now.new.self.items
    (c.loop-place.invariant ∙ ap (listed kernel.keys) last) now.ensures.permutation now.ensures.sorted
