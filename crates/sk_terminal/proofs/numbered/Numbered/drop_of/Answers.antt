-- One terminal more is changed.
use Rattle.sk_terminal.proofs.Names.{rules, not_dropped}
use Rattle.sk_terminal.proofs.Decided.{decided_more, drop_leaves, drop_takes}
use Rattle.sk_terminal.proofs.numbered.Numbered.drop_of.Goals as goal

pub loop-number-preserved : goal.loop-number-preserved
loop-number-preserved c =
    decided_more c.args.id (not_dropped c.args.id) (drop_leaves c.args.id) (drop_takes c.args.id) c.args.self.now c.loop-number.self c.drop_at.new.self c.args.numbers.now c.loop-number.number-index _
    c.loop-number-test.true (search rules) c.loop-number.invariant c.drop_at.ensures
