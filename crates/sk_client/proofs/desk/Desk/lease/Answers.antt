-- A process that waits is not lent; any other is, as the kernel lends it.
use Rattle.sk_client.proofs.Names.{Err, sym, ◌∙◌, subst, Lends, lease_of, Refusal, KernelView, state_at, desk_lease}
use Rattle.std.specs.FinMap as map
use Rattle.sk_client.proofs.Desks.{lends_blocked, lends_free}
use Rattle.sk_client.proofs.desk.Desk.lease.Goals as goal

pub returns-then-asks_for : goal.returns-then-asks_for
returns-then-asks_for c =
    subst (λ (why : Refusal). Lends (Err why) (desk_lease c.args.self.now c.args.pid)) (sym c.blocked_why.ensures)
    (lends_blocked c.args.self.now c.args.pid (sym c.asks_for.ensures ∙ c.if-asks_for.true))

pub returns : goal.returns
returns c =
    let lends = subst (λ (k : KernelView). Lends c.lease.result (lease_of (map.get (state_at k)) k.scripts c.args.pid)) c.kernel.ensures c.lease.ensures in
    lends_free c.args.self.now c.args.pid c.lease.result lends (sym c.asks_for.ensures ∙ c.if-asks_for.false)
