-- The test of the maps, which is exact.
use Rattle.sk_store.proofs.Names.{◌∙◌, Decides-at, same_state, exact_state}
use Rattle.sk_store.proofs.store.StorePartialEq.eq.Goals as goal

pub returns-clause-computed : goal.returns-clause-computed
returns-clause-computed c = c.eq.ensures.computed ∙ (λ i. same_state (c.self.view_is i) (c.other.view_is i))

pub returns-clause-exact : goal.returns-clause-exact
returns-clause-exact c =
    Decides-at c.eq.result (same_state c.args.self.now c.args.other.now) (returns-clause-computed c) (exact_state c.args.self.now c.args.other.now)
