-- The receipts of what the book did, and the book that lent.
use Rattle.sk_workers.proofs.Names.{subst, WorkerView, AnyTold}
use Rattle.sk_workers.proofs.Steps.{any_told, turn_told}
use Rattle.sk_workers.proofs.shared.Shared.turn_with_leases.Goals as goal

pub returns-clause-calls : goal.returns-clause-calls
returns-clause-calls g c =
    let made = c.turn_with_leases-worker in
    let calls = made.ensures.calls in
    let begun = c.begin_turn-number in
    let told = any_told made.result.1.handed c.deref_mut.result.now begun.result.2 c.args.lease.now calls.0 calls.1 calls.2 in (
      calls.1,
      subst (λ (w : WorkerView). AnyTold made.result.1.handed w c.args.lease.now calls.1) begun.ensures.worker told,
      turn_told made.result.1.answer calls.0 calls.1 c.args.pid made.new.self made.result.0 calls.3,
    )

pub returns-clause-lent : goal.returns-clause-lent
returns-clause-lent g c =
    let made = c.turn_with_leases-worker in
    (made.new.self, made.ensures.legal, made.ensures.lent)
