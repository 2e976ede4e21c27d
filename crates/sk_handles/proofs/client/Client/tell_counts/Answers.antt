-- The counts are those of the kernel.
use Rattle.sk_handles.proofs.Names.{subst, inl, KernelView, AreCounts}
use Rattle.sk_handles.proofs.client.Client.tell_counts.Goals as goal

pub returns-in-Ok : goal.returns-in-Ok
returns-in-Ok c = inl (c.of-in-Ok.ensures, subst (λ (k : KernelView). AreCounts k c.in-Ok.counted) c.kernel.ensures c.in-Ok.ensures)
