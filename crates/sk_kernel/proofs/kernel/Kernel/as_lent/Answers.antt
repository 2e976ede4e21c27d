-- What is looked up is the run of the trace's record.
use Rattle.sk_kernel.proofs.Names.{Option, subst, ◌↔◌, IsTrue, Entity, EntityState, look_at, Scripts, KernelView}
use Rattle.sk_kernel.proofs.Names.{state_at, the_view}
use Rattle.std.specs.FinMap as map
use Rattle.sk_plain.specs.Leased.{IsAsLent}
use Rattle.sk_kernel.proofs.Whole.{look_is}
use Rattle.sk_kernel.proofs.kernel.Kernel.as_lent.Goals as goal

pub returns : goal.returns
returns c =
    let m = c.self.inside.machine in
    let s = c.self.inside.opening.start.scripts in
    subst (λ (k : KernelView). IsTrue c.is_as_lent.result ↔ IsAsLent (map.get (state_at k)) k.scripts c.args.lease.now) c.self.view_is
    (subst (λ (f : Entity → Option EntityState). IsTrue c.is_as_lent.result ↔ IsAsLent f s c.args.lease.now) (λ i e. look_is (the_view c.self.inside) m c.self.invariant.0.stands e i)
    (subst (λ (t : Scripts). IsTrue c.is_as_lent.result ↔ IsAsLent (λ e. look_at m.slots e) t c.args.lease.now) c.scripts.ensures c.is_as_lent.ensures))
