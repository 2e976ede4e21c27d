-- The tokens are those of the undecided guesses.
use Rattle.sk_batched.proofs.Names.{map, subst, vec_items}
use Rattle.std.proofs.lemmas.Result.{IfOk-weaker}
use Rattle.sk_batched.specs.Batched.{BatchedView}
use Rattle.sk_batched.specs.Barred.{guesses_of, StandFor, StandForAll}
use Rattle.sk_batched.proofs.Standing.{for_all}
use Rattle.sk_batched.proofs.batched.Batched.resting.Goals as goal

pub returns-clause-keys : goal.returns-clause-keys
returns-clause-keys g c =
    let m = c.self.inside.kernel.parts in
    IfOk-weaker c.keys_on.result _ _
    (λ keys those. subst (λ (v : BatchedView _ _). StandForAll v.kernel.parts (map vec_items keys.items)) c.self.view_is
    (for_all m c.self.inside.queue c.self.inside.begun c.self.inside.tokens.items (map vec_items keys.items) c.self.invariant.0
    (subst (λ ts. StandFor m (guesses_of ts) (map vec_items keys.items)) c.as_slice.ensures.value those)))
    c.keys_on.ensures
