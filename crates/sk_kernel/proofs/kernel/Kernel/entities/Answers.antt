-- The entities that have a value are the keys of the state.
use Rattle.sk_kernel.proofs.Names.{◌≡◌, subst, IfOk, KernelView, state_at, the_view, if_ok}
use Rattle.std.specs.FinMap as map
use Rattle.sk_kernel.proofs.Whole.{entities_are}
use Rattle.sk_kernel.proofs.kernel.Kernel.entities.Goals as goal

pub returns-clause-present : goal.returns-clause-present
returns-clause-present c =
    subst (λ (k : KernelView). IfOk c.entities.result (λ all. all.items ≡ map.keys (state_at k))) c.self.view_is
    (if_ok c.entities.result c.entities.ensures.rising c.entities.ensures.present (λ all rising present.
    entities_are (the_view c.self.inside) c.self.inside.machine c.self.invariant.0.stands all.items rising present))
