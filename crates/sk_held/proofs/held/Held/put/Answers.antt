-- The copy is what is written.
use Rattle.sk_held.proofs.Written.{puts}
use Rattle.sk_held.proofs.held.Held.put.Goals as goal

pub returns : goal.returns
returns c =
    puts c.write.result c.args.key.now c.args.value.now c.in_ok-value.value c.args.self.now c.write.new.self c.in_ok-value.ensures.ok c.in_ok-check_key.ensures.ok c.in_ok-check_value.ensures.ok c.write.ensures
