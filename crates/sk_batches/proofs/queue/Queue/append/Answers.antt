-- One record more fits.
use Rattle.sk_batches.proofs.Names.{◌+◌, ◌≤◌, length, ap, sym, subst, arith, RecordView, payload, QueueView, undecided}
use Rattle.sk_batches.proofs.Lists.{pushed_length}
use Rattle.sk_batches.proofs.queue.Queue.append.Goals as goal

pub invariant_of-self-2 : goal.invariant_of-self-2
invariant_of-self-2 c =
    let room = subst (λ (q : QueueView). undecided q + length c.args.bytes.now ≤ q.most_bytes) (sym c.self.view_is) c.in_ok-may_append.ensures.room in
    let more = pushed_length c.self.inside.records c.in_ok-record.record in
    let now = ap (λ rs. length (payload rs)) c.in_ok-push.ensures.ok in
    let bytes = ap (λ (r : RecordView). length r.bytes) c.in_ok-record.ensures in
    omega (arith, room, more, now, bytes)
