-- The name is counted before the write, and taken out of the count again where it was there or is not written.
use Rattle.sk_undo.proofs.Cites.{rules}
use Rattle.sk_undo.proofs.NameCounts.{few_fit, put_counted, put_again_counted, put_back_counted}
use Rattle.sk_undo.proofs.logs.Logs.set.Goals as goal

pub put-requires : goal.put-requires
put-requires c = few_fit c.self.inside.slots c.self.inside.names c.args.entity.now c.most_names-most.result c.self.invariant c.most_names-most.ensures.most c.most_names-most.ensures.small

pub invariant_of-self-in-Ok-true : goal.invariant_of-self-in-Ok-true
invariant_of-self-in-Ok-true c =
    put_again_counted c.self.inside.slots c.set.new.self c.args.entity.now c.self.inside.names c.self.invariant c.self.inside.tags c.args.value c.put.new.self c.take.new.self
    (search rules) c.in-Ok-true.ensures.ok c.in_ok-put.ensures.ok c.take.ensures

pub invariant_of-self-in-Ok-false : goal.invariant_of-self-in-Ok-false
invariant_of-self-in-Ok-false c =
    put_counted c.self.inside.slots c.set.new.self c.args.entity.now c.self.inside.names c.self.invariant c.self.inside.tags c.args.value c.put.new.self
    (search rules) c.in-Ok-false.ensures.ok c.in_ok-put.ensures.ok

pub invariant_of-self-in-Err : goal.invariant_of-self-in-Err
invariant_of-self-in-Err c =
    put_back_counted c.self.inside.slots c.set.new.self c.args.entity.now c.self.inside.names c.self.invariant c.put.new.self c.take-in-Err.new.self
    c.in-Err.ensures.err c.in_ok-put.ensures.ok c.take-in-Err.ensures
