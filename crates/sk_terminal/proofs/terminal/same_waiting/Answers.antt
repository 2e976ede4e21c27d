-- From the test of two texts that wait.
use Rattle.std.proofs.Common.{◌∙◌}
use Rattle.sk_terminal.proofs.SameViews.{test_waiting}
use Rattle.sk_terminal.proofs.terminal.same_waiting.Goals as goal

pub returns : goal.returns
returns c = c.eq.ensures ∙ test_waiting c.args.texts.now c.args.others.now
