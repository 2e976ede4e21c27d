-- What is left of the run leads to where the whole leads.
use Rattle.sk_script.proofs.Names.{◌≡◌, ◌-◌, ran}
use Rattle.sk_script.proofs.lease.Lease.run.Given as goal

abbrev pub invariant-loop : goal.invariant-loop
invariant-loop l = ran (l.n - l.counter) l.self ≡ ran l.fn.n l.fn.self
