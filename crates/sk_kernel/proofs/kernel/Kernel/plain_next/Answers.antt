-- What is looked up is the run of the trace's record.
use Rattle.sk_kernel.proofs.Names.{ap, ◌∙◌, look_at, KernelView, state_at, the_view}
use Rattle.std.specs.FinMap as map
use Rattle.sk_plain.specs.Next.{next_of}
use Rattle.sk_kernel.proofs.Whole.{look_is}
use Rattle.sk_kernel.proofs.kernel.Kernel.plain_next.Goals as goal

pub returns : goal.returns
returns c =
    c.next_of.ensures
    ∙ ap (λ scripts. next_of (λ e. look_at c.self.inside.machine.slots e) scripts c.args.pid) c.scripts.ensures
    ∙ (λ i. next_of (λ e. look_is (the_view c.self.inside) c.self.inside.machine c.self.invariant.0.stands e i) c.self.inside.opening.start.scripts c.args.pid)
    ∙ ap (λ (k : KernelView). next_of (map.get (state_at k)) k.scripts c.args.pid) c.self.view_is
