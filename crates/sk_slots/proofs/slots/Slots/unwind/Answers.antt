-- One key more.
use Rattle.sk_slots.proofs.Names.{◌+◌, cond, sym, ◌∙◌, ap, drop, eq_by_cmp, is_in, unwound, cut, look_at, log_at}
use Rattle.sk_slots.proofs.Maps.{both_more, next_of}
use Rattle.sk_slots.proofs.slots.Slots.unwind.Goals as goal

pub loop-key-preserved : goal.loop-key-preserved
loop-key-preserved g c =
    let R = g.K.Key.order in
    let i = c.loop-key.key-index in
    let k = c.key-item.result in
    let id = c.args.id in
    let now = c.loop-key.self in
    let new = c.unwind_one.new.self in
    let rest = drop (i + 1) c.args.keys.now in
    let next = next_of c.args.keys.now i k c.loop-key-test.true c.key-item.is in (
      λ q.
          (both_more id (eq_by_cmp R q k) (is_in R rest q) (look_at R now q) (look_at R new q) (log_at R now q) (log_at R new q)
          (c.unwind_one.ensures.look q) (c.unwind_one.ensures.log q)).0
          ∙ ap (λ es. cond (is_in R es q) (unwound id (log_at R now q) (look_at R now q)) (look_at R now q)) (sym next)
          ∙ c.loop-key.invariant.0 q,
      λ q.
          (both_more id (eq_by_cmp R q k) (is_in R rest q) (look_at R now q) (look_at R new q) (log_at R now q) (log_at R new q)
          (c.unwind_one.ensures.look q) (c.unwind_one.ensures.log q)).1
          ∙ ap (λ es. cond (is_in R es q) (cut id (log_at R now q)) (log_at R now q)) (sym next)
          ∙ c.loop-key.invariant.1 q,
      λ before. c.unwind_one.ensures.settled (c.loop-key.invariant.2 before),
    )
