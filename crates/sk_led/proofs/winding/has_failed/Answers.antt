-- A frame was lost, or the next is taken for that.
use Rattle.sk_led.proofs.Names.{◌≡◌, true, is_some, length, rules, arith}
use Rattle.sk_led.proofs.Last.{failed_next, none_done, some_due}
use Rattle.sk_led.proofs.winding.has_failed.Goals as goal

pub returns-then-is_some : goal.returns-then-is_some
returns-then-is_some c =
    let some : is_some c.cut_due.result ≡ true = search rules in
    (none_done c.args.store.now, some_due c.args.store.now.batched.queue c.cut_due.result c.cut_due.ensures some, omega arith)

pub returns-in-Ok : goal.returns-in-Ok
returns-in-Ok c =
    failed_next c.args.store.now c.take.new.store c.fail.new.store c.in-Ok.sealed (length c.args.room.now) c.in-Ok.ensures c.fail.ensures
