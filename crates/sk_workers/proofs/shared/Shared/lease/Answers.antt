use Rattle.sk_workers.proofs.shared.Shared.lease.Goals as goal

pub returns-clause-lease : goal.returns-clause-lease
returns-clause-lease g c = (c.deref_mut.result.now, c.lease.ensures.legal, c.lease.ensures.lease)
