-- One key more.
use Rattle.sk_slots.proofs.Names.{◌+◌, List, cond, sym, ◌∙◌, ap, drop, [], eq_by_cmp, is_in, merged, Note, committed}
use Rattle.sk_slots.proofs.Names.{log_at}
use Rattle.sk_slots.proofs.Joins.{lightened_twice}
use Rattle.sk_slots.proofs.Maps.{pass_more, next_of}
use Rattle.sk_slots.proofs.slots.Slots.commit.Goals as goal

pub loop-key-preserved : goal.loop-key-preserved
loop-key-preserved g c =
    let R = g.K.Key.order in
    let i = c.loop-key.key-index in
    let k = c.key-item.result in
    let next = next_of c.args.keys.now i k c.loop-key-test.true c.key-item.is in
    let f = λ (ns : List (Note _)). merged [] (committed c.args.id ns) in (
      λ q. c.commit_one.ensures.look q ∙ c.loop-key.invariant.0 q,
      λ q.
          pass_more f (lightened_twice c.args.id) (eq_by_cmp R q k) (is_in R (drop (i + 1) c.args.keys.now) q) (log_at R c.loop-key.self q) (log_at R c.commit_one.new.self q) (c.commit_one.ensures.log q)
          ∙ ap (λ es. cond (is_in R es q) (f (log_at R c.loop-key.self q)) (log_at R c.loop-key.self q)) (sym next) ∙ c.loop-key.invariant.1 q,
      λ before. c.commit_one.ensures.settled (c.loop-key.invariant.2 before),
    )
