-- One terminal more is changed.
use Rattle.sk_terminal.proofs.Names.{rules, lightened}
use Rattle.sk_terminal.proofs.Decided.{decided_more, light_leaves, light_takes}
use Rattle.sk_terminal.proofs.numbered.Numbered.commit.Goals as goal

pub loop-number-preserved : goal.loop-number-preserved
loop-number-preserved c =
    decided_more c.args.id (lightened c.args.id) (light_leaves c.args.id) (light_takes c.args.id) c.args.self.now c.loop-number.self c.commit_at.new.self c.args.numbers.now c.loop-number.number-index _
    c.loop-number-test.true (search rules) c.loop-number.invariant c.commit_at.ensures
