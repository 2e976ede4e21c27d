-- The oldest open guess is the least of the trace's undecided ones.
use Rattle.sk_kernel.proofs.Names.{◌∙◌, ap, get_or, the_view}
use Rattle.sk_kernel.specs.Kernel.{settled}
use Rattle.sk_kernel.proofs.Whole.{opens_are}
use Rattle.sk_kernel.proofs.Tokens.{next_is}
use Rattle.sk_kernel.proofs.kernel.Kernel.settled.Goals as goal

pub returns : goal.returns
returns c =
    let k = the_view c.self.inside in
    c.settled.ensures
    ∙ (λ i. get_or (opens_are k c.self.inside.machine c.self.invariant.0.stands i) 0 (next_is k c.self.inside.machine c.self.inside.trace.room c.self.invariant.0 i))
    ∙ ap settled c.self.view_is
