-- The records move from the open batch to the last, and nothing more is undecided.
use Rattle.sk_batches.proofs.Names.{sum_by_push, ◌≤◌, ◌++◌, ◌∷◌, [], ◌∙◌, length, ap, sym, subst, arith, sum_by, Kept}
use Rattle.sk_batches.proofs.Names.{Batch, payload, QueueView, kept_records, next_records, send}
use Rattle.sk_batches.proofs.Lists.{size, both_length, kept_size, sum_mapped, sent_size}
use Rattle.sk_batches.proofs.queue.Queue.take.Goals as goal

pub fill-requires-clause-room : goal.fill-requires-clause-room
fill-requires-clause-room c =
    let now = ap (λ bs. length (payload (kept_records bs))) (c.as_slice.ensures.value ∙ c.in_ok-reserve.ensures.items) in
    let room = subst (λ (q : QueueView). length (payload (next_records q)) ≤ length c.args.room.now) (sym c.self.view_is) c.in_ok-may_take.ensures.room in
    let both = both_length (kept_records c.self.inside.batches.items) c.self.inside.records in
    omega (arith, now, room, both)

pub fill-requires-clause-small : goal.fill-requires-clause-small
fill-requires-clause-small c =
    let now = ap (λ bs. length (payload (kept_records bs))) (c.as_slice.ensures.value ∙ c.in_ok-reserve.ensures.items) in
    let less = kept_size c.self.inside.batches.items in
    omega (arith, now, less, c.self.invariant)

pub invariant_of-self-2 : goal.invariant_of-self-2
invariant_of-self-2 c =
    let batch : Batch = record { number = c.self.inside.number; frame = c.self.inside.frame; stage = Kept; records = c.replace.result } in
    let less = sum_mapped (send c.self.inside.frame) (sent_size c.self.inside.frame) c.push_reserved.new.self.items in
    let all = ap (sum_by size) (c.push_reserved.ensures.items ∙ ap (λ bs. bs ++ batch ∷ []) c.in_ok-reserve.ensures.items) in
    let both = sum_by_push size c.self.inside.batches.items batch in
    let now = ap (sum_by size) c.send_all.ensures in
    let old = ap (λ rs. length (payload rs)) c.replace.ensures.value in
    let next = ap (λ rs. length (payload rs)) c.replace.ensures.after in
    let none = ap (λ rs. length (payload rs)) c.new.ensures in
    omega (arith, less, all, both, now, old, next, none, c.self.invariant)
