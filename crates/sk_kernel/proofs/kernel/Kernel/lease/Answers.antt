-- What is looked up is the run of the trace's record.
use Rattle.sk_kernel.proofs.Names.{Option, subst, Entity, EntityState, look_at, Scripts, Lends, lease_of, KernelView}
use Rattle.sk_kernel.proofs.Names.{state_at, the_view}
use Rattle.std.specs.FinMap as map
use Rattle.sk_kernel.proofs.Whole.{look_is}
use Rattle.sk_kernel.proofs.kernel.Kernel.lease.Goals as goal

pub returns : goal.returns
returns c =
    let m = c.self.inside.machine in
    let s = c.self.inside.opening.start.scripts in
    subst (λ (k : KernelView). Lends c.lease_of.result (lease_of (map.get (state_at k)) k.scripts c.args.pid)) c.self.view_is
    (subst (λ (f : Entity → Option EntityState). Lends c.lease_of.result (lease_of f s c.args.pid)) (λ i e. look_is (the_view c.self.inside) m c.self.invariant.0.stands e i)
    (subst (λ (t : Scripts). Lends c.lease_of.result (lease_of (λ e. look_at m.slots e) t c.args.pid)) c.scripts.ensures c.lease_of.ensures))
